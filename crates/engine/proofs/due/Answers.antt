-- Judged first; the marking's words are asked.
use Rattle.std.proofs.Common.{rules, sym}
use Rattle.acts.specs.Laws.Judging.{unused, table_good, few_records, some_events}
use Rattle.engine.specs.Laws.Judging.{stands_laid}
use Rattle.engine.specs.Laws.Refused.{due_refused}
use Rattle.engine.specs.Laws.Done.{due_done}
use Rattle.engine.proofs.due.Goals as goal

pub returns-in_err-judge : goal.returns-in_err-judge
returns-in_err-judge c = due_refused c.args.t.now c.args.m.now c.in_err-judge.field-0.0 (search rules) c.in_err-judge.ensures

pub of-requires : goal.of-requires
of-requires c = few_records c.args.t.now c.args.m.now (sym c.in_ok-judge.ensures)

pub due-requires : goal.due-requires
due-requires c = let done = sym c.in_ok-judge.ensures in (some_events c.args.t.now c.args.m.now done, (table_good c.args.t.now c.args.m.now done).few_events)

pub returns : goal.returns
returns c =
    due_done c.args.t.now c.args.m.now c.in_ok-judge.ensures
    (c.due.ensures (unused c.args.m.now) c.args.m.now (stands_laid c.args.t.now c.args.m.now (sym c.in_ok-judge.ensures) c.of.result c.of.ensures.stand))

-- Judged first, then what is followed is noted relation by relation, and the closure of the busy events, by words, with its size.
use Rattle.std.proofs.Common.{rules, refl, sym}
use Rattle.acts.specs.Laws.Judging.{unused, table_good, few_records, some_events}
use Rattle.engine.specs.Laws.Judging.{stands_laid}
use Rattle.engine.specs.Laws.Refused.{closure_refused}
use Rattle.engine.specs.Laws.Done.{closure_done}
use Rattle.engine.proofs.closure.Goals as goal

pub returns-in_err-judge : goal.returns-in_err-judge
returns-in_err-judge c = closure_refused c.args.t.now c.args.m.now c.in_err-judge.field-0.0 (search rules) c.in_err-judge.ensures

pub of-requires : goal.of-requires
of-requires c = table_good c.args.t.now c.args.m.now (sym c.in_ok-judge.ensures)

pub of-requires-2 : goal.of-requires-2
of-requires-2 c = few_records c.args.t.now c.args.m.now (sym c.in_ok-judge.ensures)

pub closure-set-requires : goal.closure-set-requires
closure-set-requires c = let done = sym c.in_ok-judge.ensures in (some_events c.args.t.now c.args.m.now done, (table_good c.args.t.now c.args.m.now done).few_events)

pub returns : goal.returns
returns c =
    let stands = stands_laid c.args.t.now c.args.m.now (sym c.in_ok-judge.ensures) c.of-2.result c.of-2.ensures.stand in
    closure_done c.args.t.now c.args.m.now c.in_ok-judge.ensures (c.closure-set.ensures c.args.t.now (unused c.args.m.now) c.args.m.now c.of.ensures refl stands) c.size.ensures

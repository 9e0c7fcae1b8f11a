-- Judged first; where nothing is due the clock moves on, and the marking that the words then stand for is given back.
use Rattle.std.proofs.Common.{rules, refl, sym, ◌∙◌}
use Rattle.acts.specs.Laws.Due.{tick_goes, tick_held}
use Rattle.acts.specs.Laws.Judging.{unused, table_good, few_records, some_events}
use Rattle.rules.specs.declared.refusal.Refusal.TheVariants.{StillDue}
use Rattle.engine.specs.Laws.Judging.{stands_laid, stands_given}
use Rattle.engine.specs.Laws.Refused.{at_judging, after_judging, tick_refused}
use Rattle.engine.specs.Laws.Done.{tick_done}
use Rattle.engine.proofs.plain_tick.Goals as goal

pub returns-in_err-judge : goal.returns-in_err-judge
returns-in_err-judge c =
    let refusal = c.in_err-judge.field-0.0 in
    tick_refused c.args.t.now c.args.m.now refusal (search rules) (at_judging c.args.t.now c.args.m.now refusal _ c.in_err-judge.ensures)

pub of-marking-requires : goal.of-marking-requires
of-marking-requires c = few_records c.args.t.now c.args.m.now (sym c.in_ok-judge.ensures)

pub due-requires : goal.due-requires
due-requires c = let done = sym c.in_ok-judge.ensures in (some_events c.args.t.now c.args.m.now done, (table_good c.args.t.now c.args.m.now done).few_events)

pub returns-then-due-ne0 : goal.returns-then-due-ne0
returns-then-due-ne0 c =
    let stands = stands_laid c.args.t.now c.args.m.now (sym c.in_ok-judge.ensures) c.of-marking.result c.of-marking.ensures.stand in
    let due = c.due.ensures (unused c.args.m.now) c.args.m.now stands in
    let held = tick_held c.args.m.now (λ z. c.if-due-ne0.true (due ∙ z)) in
    tick_refused c.args.t.now c.args.m.now StillDue refl (after_judging c.args.t.now c.args.m.now StillDue _ c.in_ok-judge.ensures (sym held))

pub marking-requires : goal.marking-requires
marking-requires c = few_records c.args.t.now c.args.m.now (sym c.in_ok-judge.ensures)

pub returns : goal.returns
returns c =
    let done = sym c.in_ok-judge.ensures in
    let stands = stands_laid c.args.t.now c.args.m.now done c.of-marking.result c.of-marking.ensures.stand in
    let due = c.due.ensures (unused c.args.m.now) c.args.m.now stands in
    let goes = tick_goes c.args.m.now (sym due ∙ c.if-due-ne0.false) in
    tick_done c.args.t.now c.args.m.now c.in_ok-judge.ensures (sym goes)
    (stands_given c.args.t.now c.args.m.now done c.pass_tick.new.self c.marking.ensures (c.pass_tick.ensures.stand _ (unused c.args.m.now) c.args.m.now stands))

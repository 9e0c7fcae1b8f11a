-- Judged first, then the event by the relations as they are.
use Rattle.std.proofs.Common.{rules, sym}
use Rattle.rules.proofs.Laws.Judge.{good}
use Rattle.rules.proofs.Laws.Granted.{event_fits}
use Rattle.rules.proofs.Laws.InNumbers.{hold_up_whole}
use Rattle.engine.specs.Laws.Refused.{at_judging, after_judging, hold_up_refused}
use Rattle.engine.specs.Laws.Done.{is_there, hold_up_done}
use Rattle.engine.proofs.hold_up.Goals as goal

pub returns-in_err-judge : goal.returns-in_err-judge
returns-in_err-judge c =
    let refusal = c.in_err-judge.field-0.0 in
    let whole = hold_up_whole c.args.t.now c.args.m.now c.args.event (hold_up_refused c.args.t.now c.args.m.now refusal (search rules) _ (at_judging c.args.t.now c.args.m.now refusal _ c.in_err-judge.ensures)) in
    record { answer = whole.0; told = whole.1 }

pub returns-in_err-exists : goal.returns-in_err-exists
returns-in_err-exists c =
    let refusal = c.in_err-exists.field-0.0 in
    let whole = hold_up_whole c.args.t.now c.args.m.now c.args.event (hold_up_refused c.args.t.now c.args.m.now refusal (search rules) _ (after_judging c.args.t.now c.args.m.now refusal _ c.in_ok-judge.ensures c.in_err-exists.ensures)) in
    record { answer = whole.0; told = whole.1 }

pub holding-requires-clause-good : goal.holding-requires-clause-good
holding-requires-clause-good c = good _ _ (sym c.in_ok-judge.ensures)

pub holding-requires-clause-e_bound : goal.holding-requires-clause-e_bound
holding-requires-clause-e_bound c = event_fits (good _ _ (sym c.in_ok-judge.ensures)) (is_there _ _ c.in_ok-exists.ensures)

pub returns : goal.returns
returns c =
    let whole = hold_up_whole c.args.t.now c.args.m.now c.args.event (hold_up_done c.args.t.now c.args.m.now c.in_ok-judge.ensures _ c.holding.result c.in_ok-exists.ensures c.holding.ensures) in
    record { answer = whole.0; told = whole.1 }

-- Judged first, then the event by the relations as they are.
use Rattle.std.proofs.Common.{rules, sym}
use Rattle.rules.proofs.Laws.Judge.{good}
use Rattle.rules.proofs.Laws.Granted.{event_fits}
use Rattle.engine.specs.Laws.Refused.{at_judging, after_judging, enabled_refused}
use Rattle.engine.specs.Laws.Done.{is_there, enabled_done}
use Rattle.engine.proofs.enabled.Goals as goal

pub returns-in_err-judge : goal.returns-in_err-judge
returns-in_err-judge c =
    let refusal = c.in_err-judge.field-0.0 in
    enabled_refused c.args.t.now c.args.m.now refusal (search rules) _ (at_judging c.args.t.now c.args.m.now refusal _ c.in_err-judge.ensures)

pub returns-in_err-exists : goal.returns-in_err-exists
returns-in_err-exists c =
    let refusal = c.in_err-exists.field-0.0 in
    enabled_refused c.args.t.now c.args.m.now refusal (search rules) _ (after_judging c.args.t.now c.args.m.now refusal _ c.in_ok-judge.ensures c.in_err-exists.ensures)

pub is_enabled-requires-clause-good : goal.is_enabled-requires-clause-good
is_enabled-requires-clause-good c = good _ _ (sym c.in_ok-judge.ensures)

pub is_enabled-requires-clause-e_bound : goal.is_enabled-requires-clause-e_bound
is_enabled-requires-clause-e_bound c = event_fits (good _ _ (sym c.in_ok-judge.ensures)) (is_there _ _ c.in_ok-exists.ensures)

pub returns : goal.returns
returns c = enabled_done c.args.t.now c.args.m.now c.in_ok-judge.ensures _ c.in_ok-exists.ensures c.is_enabled.ensures

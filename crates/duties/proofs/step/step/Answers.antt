-- One step, by its kind.
use Rattle.std.proofs.Common.{◌≡◌, Err, rules, ap, sym, arith}
use Rattle.rules.specs.Results.{number_of}
use Rattle.rules.proofs.Laws.Results.{refused_number}
use Rattle.rules.proofs.Laws.Trace.{wrong_event, wrong_kind}
use Rattle.acts.specs.declared.derived.Head.{Head}
use Rattle.duties.specs.Laws.Sets.{stands_of}
use Rattle.duties.specs.Laws.Step.{happen_turned, wrong_turned, plain_turned, plain_done, guarded_turned, guarded_done}
use Rattle.duties.proofs.step.step.Goals as goal
use Rattle.duties.proofs.step.step.Goals.{in-2+in_ok-plain_tick-in-2, in-3+in_ok-guarded_tick-in-3}

pub returns-in-0-to-1-clause-turned : goal.returns-in-0-to-1-clause-turned
returns-in-0-to-1-clause-turned c = λ t tail m of sure stands.
    happen_turned c.args.step (omega (arith, c.in-0-to-1)) (c.happen.ensures.number t tail m of stands) (c.happen.ensures.stand t tail m of stands)

pub returns-in_err-plain_tick-in-2-clause-turned : goal.returns-in_err-plain_tick-in-2-clause-turned
returns-in_err-plain_tick-in-2-clause-turned c = λ t tail m of sure stands.
    let is : c.from_residual.result ≡ Err c.in_err-plain_tick-in-2.field-0.0 = search rules in
    let events = ap (λ (h : Head). h.events) of.rows.headed in
    rw (ap number_of is)
    (plain_turned c.args.step c.if-e-eq0.true c.in-2.is (c.in_err-plain_tick-in-2.ensures.number tail m (stands_of (sym events) stands))
    (refused_number c.in_err-plain_tick-in-2.field-0.0)
    (stands_of events (c.in_err-plain_tick-in-2.ensures.stand tail m (stands_of (sym events) stands))))

pub returns-in_err-guarded_tick-in-3-clause-turned : goal.returns-in_err-guarded_tick-in-3-clause-turned
returns-in_err-guarded_tick-in-3-clause-turned c = λ t tail m of sure stands.
    let is : c.from_residual-in_err-guarded_tick-in-3.result ≡ Err c.in_err-guarded_tick-in-3.field-0.0 = search rules in
    rw (ap number_of is)
    (guarded_turned c.args.step c.if-e-eq0-2.true c.in-3.is (c.in_err-guarded_tick-in-3.ensures.number t tail m of sure stands)
    (refused_number c.in_err-guarded_tick-in-3.field-0.0) (c.in_err-guarded_tick-in-3.ensures.stand t tail m of sure stands))

pub returns-in_default-clause-turned : goal.returns-in_default-clause-turned
returns-in_default-clause-turned c = λ t tail m of sure stands.
    wrong_turned c.args.step (wrong_event c.args.step.kind c.args.step.event (omega (arith, c.in-2.is)) c.if-e-eq0.false) stands

pub returns-in_default-2-clause-turned : goal.returns-in_default-2-clause-turned
returns-in_default-2-clause-turned c = λ t tail m of sure stands.
    wrong_turned c.args.step (wrong_event c.args.step.kind c.args.step.event (omega (arith, c.in-3.is)) c.if-e-eq0-2.false) stands

pub returns-in_default-3-clause-turned : goal.returns-in_default-3-clause-turned
returns-in_default-3-clause-turned c = λ t tail m of sure stands.
    wrong_turned c.args.step (wrong_kind c.args.step.kind c.args.step.event (omega (arith, c.in_default))) stands

pub returns-clause-turned : goal.returns-clause-turned
returns-clause-turned c = λ t tail m of sure stands.
    let events = ap (λ (h : Head). h.events) of.rows.headed in
    elim c.match-step.branch [
      | in-2+in_ok-plain_tick-in-2 w ↦
          rw w.marking-is
          (plain_done c.args.step w.if-e-eq0.true _ (search rules) w.in-2.is (w.in_ok-plain_tick-in-2.ensures.number tail m (stands_of (sym events) stands))
          (stands_of events (w.in_ok-plain_tick-in-2.ensures.stand tail m (stands_of (sym events) stands))))
      | in-3+in_ok-guarded_tick-in-3 w ↦
          rw w.marking-is
          (guarded_done c.args.step w.if-e-eq0-2.true _ (search rules) w.in-3.is
          (w.in_ok-guarded_tick-in-3.ensures.number t tail m of sure stands) (w.in_ok-guarded_tick-in-3.ensures.stand t tail m of sure stands))
    ]

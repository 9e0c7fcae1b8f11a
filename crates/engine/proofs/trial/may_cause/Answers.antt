-- Three tests, in the definition's order.
use Rattle.std.proofs.Common.{arith, sym, ◌∙◌}
use Rattle.engine.specs.Laws.Trial.{cause_enabled, cause_not, cause_missing}
use Rattle.engine.proofs.trial.may_cause.Goals as goal
use Rattle.engine.proofs.trial.may_cause.Goals.{then-e-head, else-e-head}

pub returns-then-has_event-clause-value : goal.returns-then-has_event-clause-value
returns-then-has_event-clause-value c t tail m of stands =
    elim c.if-e-head.branch [
      | then-e-head w ↦
          cause_enabled of m c.args.e w.if-e-head.true (sym w.has_event.ensures ∙ sym w.value-is ∙ c.if-has_event.true)
          (λ exists. c.may_act.ensures t tail m (c.row.ensures t of) exists stands)
      | else-e-head w ↦ absurd (omega arith)
    ]

pub returns-else-has_event-clause-value : goal.returns-else-has_event-clause-value
returns-else-has_event-clause-value c t tail m of stands =
    elim c.if-e-head.branch [
      | then-e-head w ↦
          c.if-has_event.false ∙ cause_not of m c.args.e w.if-e-head.true (sym w.has_event.ensures ∙ sym w.value-is ∙ c.if-has_event.false)
      | else-e-head w ↦ c.if-has_event.false ∙ cause_missing of m c.args.e w.if-e-head.false
    ]

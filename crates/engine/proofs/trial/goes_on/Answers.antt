-- Two tests, in the definition's order.
use Rattle.std.proofs.Common.{sym, ◌∙◌}
use Rattle.rules.proofs.Laws.Time.{none_due_yet, some_due_still}
use Rattle.engine.specs.Laws.Trial.{stands_headed}
use Rattle.engine.proofs.trial.goes_on.Goals as goal

pub returns-then-due-ne0-clause-value : goal.returns-then-due-ne0-clause-value
returns-then-due-ne0-clause-value c t tail m of stands =
    rw (
      some_due_still m (λ z. c.if-due-ne0.true (c.due.ensures tail m (stands_headed of tail c.args.marking.now m stands) ∙ z)),
      ← c.may_cause.ensures.value t tail m of stands,
    )

pub returns-else-due-ne0-clause-value : goal.returns-else-due-ne0-clause-value
returns-else-due-ne0-clause-value c t tail m of stands =
    rw (c.if-due-ne0.false, none_due_yet m (sym (c.due.ensures tail m (stands_headed of tail c.args.marking.now m stands)) ∙ c.if-due-ne0.false))

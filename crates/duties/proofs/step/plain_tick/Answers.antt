-- 11 where an event is due.
use mathlib.Core.Path.{◌∙◌, sym}
use Rattle.acts.specs.Laws.Due.{tick_goes, tick_held}
use Rattle.duties.proofs.step.plain_tick.Goals as goal

pub returns-then-due-ne0-clause-number : goal.returns-then-due-ne0-clause-number
returns-then-due-ne0-clause-number c = λ tail m stands. sym (tick_held m (λ none. c.if-due-ne0.true (c.due.ensures tail m stands ∙ none)))

pub returns-clause-number : goal.returns-clause-number
returns-clause-number c = λ tail m stands. sym (tick_goes m (sym (c.due.ensures tail m stands) ∙ c.if-due-ne0.false))

-- Age minus time where it has happened, else never.
use mathlib.Core.Path.{ap, ◌∙◌}
use borrow.Author.Rules.{sfits_of}
use mir.Syntax.{w32}
use mir.Facts.{to_z-of_z}
use Rattle.rules.specs.Rest.{By}
use Rattle.rules.specs.Margin.{rest_of}
use Rattle.acts.proofs.margin.rest_of.Goals as goal

pub returns-then-r : goal.returns-then-r
unfolding rest_of
returns-then-r c = simp c.if-r.true (ap By (to_z-of_z {w = w32} (sfits_of c.minus.type_inv) ∙ c.minus.ensures))

pub returns-else-r : goal.returns-else-r
unfolding rest_of
returns-else-r c = simp c.if-r.false

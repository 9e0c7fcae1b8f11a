-- The tests of the definition in its order; the rest is worked once, for both.
use mathlib.Core.Path.{◌≡◌, ◌∙◌, refl, ap}
use lib.IntN.{ℤ}
use Rattle.std.specs.Prelude.{Option, Some, None}
use borrow.Author.Tests.{eq-eqb, ne_eqb}
use Rattle.rules.specs.declared.answers.Margin.TheVariants.{Counts}
use Rattle.rules.specs.MarginAnswer.{Ignored}
use Rattle.rules.specs.Margin.{outright, margin_of}
use Rattle.rules.specs.Results.{as_rest, as_margin_of}
use Rattle.acts.proofs.margin.margin_of.Goals as goal

-- what counts is the rest outright
counted : (rest : Option ℤ) → as_margin_of (Counts rest) ≡ outright (as_rest rest)
counted None = refl
counted (Some ticks) = refl

pub returns-then-k-ne1 : goal.returns-then-k-ne1
unfolding margin_of
returns-then-k-ne1 c = simp (ne_eqb _ _ c.if-k-ne1.true)

pub returns-then-r : goal.returns-then-r
unfolding margin_of
returns-then-r c = simp (eq-eqb _ _ c.if-k-ne1.false, c.if-r.true) (counted c.rest_of-rest.result ∙ ap outright c.rest_of-rest.ensures)

pub returns-else-r : goal.returns-else-r
unfolding margin_of
returns-else-r c = simp (eq-eqb _ _ c.if-k-ne1.false, c.if-r.false) (ap Ignored c.rest_of-rest.ensures)

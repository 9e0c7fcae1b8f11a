-- Included, and no relation blocks: there is no lowest that does.
use Rattle.rules.specs.Enabled.{is_enabled, blocks}
use Rattle.acts.specs.Blocking.{blocks_as}
use mathlib.Core.Path.{◌∙◌, sym}
use native.Mathlib.Omega.{arith}
use Rattle.rules.proofs.Laws.Counting.{lowest_zero}
use Rattle.acts.specs.Laws.Blocking.{found_some, flipped}
use Rattle.acts.proofs.holding.is_enabled.Goals as goal

pub first_blocking-requires-clause-from_le_count :
    goal.first_blocking-requires-clause-from_le_count
first_blocking-requires-clause-from_le_count c = (omega arith, lowest_zero _)

pub returns-then-m-e : goal.returns-then-m-e
unfolding is_enabled blocks blocks_as
returns-then-m-e c = simp c.if-m-e.true (flipped _ _ (sym (found_some _ _ _ c.first_blocking.ensures) ∙ c.is_none.ensures))

pub returns-else-m-e : goal.returns-else-m-e
unfolding is_enabled
returns-else-m-e c = simp c.if-m-e.false

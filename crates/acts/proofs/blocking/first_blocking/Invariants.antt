-- Below i no relation blocks, or would.
use mathlib.Core.Path.{◌≡◌}
use Rattle.rules.specs.Counting.{lowest}
use Rattle.acts.specs.Blocking.{blocks_as}
use Rattle.acts.proofs.blocking.first_blocking.Given as goal

abbrev pub invariant-loop-i : goal.invariant-loop-i
invariant-loop-i l = lowest l.i (blocks_as l.returned l.t l.m l.e) ≡ l.i

-- After k turns the first k relations are held, and the places past them are empty.
use mathlib.Core.Path.{◌≡◌}
use mathlib.Core.List.{◌++◌}
use Prim.Native.Nat.{◌-◌}
use lib.ListN.{replicate}
use Rattle.rules.specs.Counting.{places}
use Rattle.rules.specs.Holds.{most_relations, empty_relation}
use Rattle.duty.specs.Making.{held_relation}
use Rattle.duty.proofs.building.relations_from.Given as goal

abbrev pub invariant-loop-k : goal.invariant-loop-k
invariant-loop-k l = l.relations ≡ places l.k (held_relation l.numbers) ++ replicate (most_relations - l.k) empty_relation

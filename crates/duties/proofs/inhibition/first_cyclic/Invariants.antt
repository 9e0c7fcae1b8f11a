-- What is cleared is on no cycle, and no event of the set is reached from its own inhibitors but among those that are left.
use Prim.Native.Nat.{◌<◌, ◌^◌}
use Rattle.rules.specs.declared.Table.{Table}
use Rattle.rules.specs.Check.{on_cycle}
use Rattle.duties.specs.Inhibition.{FollowingOf}
use Rattle.duties.specs.Laws.Search.{Searched}
use Rattle.duties.proofs.inhibition.first_cyclic.Given as goal

abbrev pub invariant-loop-e : goal.invariant-loop-e
invariant-loop-e l = (t : Table) → FollowingOf t l.following → l.set < 2 ^ t.events → Searched (on_cycle t l.set) l.set l.e-iterator.left

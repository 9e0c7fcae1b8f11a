-- One relation more.
use mathlib.Core.Path.{◌≡◌}
use Prim.Native.Nat.{◌/◌}
use native.Mathlib.Omega.{arith}
use lib.ListN.{length}
use Rattle.rules.specs.Holds.{most_relations, empty_relation}
use Rattle.rules.proofs.Laws.Counting.{filled_none, filled_more}
use Rattle.duty.specs.Making.{held_relation}
use Rattle.duty.proofs.building.relations_from.Goals as goal

pub loop-k-init : goal.loop-k-init
loop-k-init c = filled_none _ empty_relation most_relations

pub loop-k-preserved : goal.loop-k-preserved
loop-k-preserved c =
    rw (c.loop-k.invariant, c.relation_from.ensures)
    (filled_more (held_relation c.args.numbers.now) empty_relation most_relations c.loop-k.k (omega arith))

pub returns : goal.returns
returns c =
    let e : c.loop-k.k ≡ length c.args.numbers.now / 5 = omega arith in
    rw (c.loop-k.invariant, e)

-- What is left to open falls, from relation to event; and the walk over an event's blocking relations has made what the visit makes of those
-- before the next one.
use Rattle.std.proofs.Common.{◌-◌, ◌≡◌, true, ℕ, ◌+◌, ◌<◌, ◌≤◌, length, ◌*◌}
use Rattle.std.specs.Prelude.{Some}
use Rattle.rules.specs.declared.Table.{Table}
use Rattle.rules.specs.declared.Marking.{Marking}
use Rattle.rules.specs.EventSet.{size_of}
use Rattle.rules.specs.Enabled.{blocks}
use Rattle.chain.specs.Stops.{to_go}
use Rattle.chain.specs.Visits.{VisitsOf, state_of, step}
use Rattle.chain.specs.Laws.Visiting.{Come}
use Rattle.chain.proofs.stops.Visits.+visit.Given as goal

abbrev pub decreases-event : goal.decreases-event
decreases-event l = (64 - size_of l.walk.now.opened) * 2

abbrev pub decreases-relation : goal.decreases-relation
decreases-relation l = (64 - size_of l.walk.now.opened) * 2 + 1

abbrev pub invariant-event-loop-next : goal.invariant-event-loop-next
invariant-event-loop-next l =
    (length l.list ≡ length l.initial.list) × (size_of l.initial.walk.opened ≤ size_of l.walk.opened)
    × ((t : Table) (m : Marking) → VisitsOf t m l.self
    → ((k : ℕ) → l.next ≡ Some k → (k < t.count) × (blocks t m l.e k ≡ true))
    × ((f : ℕ) → 64 ≤ f + size_of l.initial.walk.opened
    → Come t m (step t m f l.depth l.e) l.initial.walk.opened (state_of l.initial.walk l.initial.list) (state_of l.walk l.list) l.next))

abbrev pub decreases-event-loop-next : goal.decreases-event-loop-next
decreases-event-loop-next l = to_go l.next

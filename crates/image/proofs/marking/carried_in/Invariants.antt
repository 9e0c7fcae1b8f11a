-- `image::marking::carried_in` meets its contract: after e turns the first e records are carried over, and the places past them are empty.
use Rattle.std.proofs.Common.{◌≡◌, ◌-◌, ◌++◌, replicate}
use Rattle.rules.specs.Counting.{places}
use Rattle.rules.specs.Holds.{most_events, empty_record}
use Rattle.rules.specs.Carrying.{old_record_bit, carried_at}
use Rattle.image.proofs.marking.carried_in.Given as goal

abbrev pub invariant-loop-e : goal.invariant-loop-e
invariant-loop-e l = l.records ≡ places l.e (λ e. carried_at l.old (old_record_bit e)) ++ replicate (most_events - l.e) empty_record

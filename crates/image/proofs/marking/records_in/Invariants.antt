-- `image::marking::records_in` meets its contract: after e turns the first e records are read, none of them gives a number, and the places
-- past them are empty.
use Rattle.std.proofs.Common.{◌≡◌, ◌-◌, ◌++◌, replicate}
use Rattle.rules.specs.Counting.{places}
use Rattle.rules.specs.Holds.{most_events, empty_record}
use Rattle.rules.specs.Image.{record_at, record_bit}
use Rattle.image.specs.Parts.{records_number}
use Rattle.image.proofs.marking.records_in.Given as goal

abbrev pub invariant-loop-e : goal.invariant-loop-e
invariant-loop-e l = record {
  filled : l.records ≡ places l.e (λ e. record_at l.image (record_bit e)) ++ replicate (most_events - l.e) empty_record;
  clear : records_number l.e l.image ≡ 0;
}

-- `image::marking::put_records` meets its contract: after e turns the first e records stand in the buffer, and the rest is as it was.
use Rattle.std.proofs.Common.{◌≡◌}
use Rattle.rules.specs.Image.{record_bytes, event_image}
use Rattle.rules.proofs.Laws.Pieces.{standing}
use Rattle.image.proofs.marking.put_records.Given as goal

abbrev pub invariant-loop-e : goal.invariant-loop-e
invariant-loop-e l = l.buffer ≡ standing (event_image l.m) record_bytes l.initial.buffer 0 l.e

-- Event by event; a place that the list does not have is passed over.
use Rattle.std.specs.Prelude.{◌≡◌, take}
use Rattle.sleep.specs.Passing.{put, noted}
use Rattle.sleep.proofs.passing.note.Given as goal

abbrev pub invariant-loop-i : goal.invariant-loop-i
invariant-loop-i l = l.list ≡ put l.at (noted l.tick (take l.i l.caused)) l.initial.list

-- `image::table::put_relations` meets its contract: after i turns the first i relations stand behind the classes, and the rest is as it was.
use Rattle.std.proofs.Common.{◌≡◌, ◌+◌}
use Rattle.rules.specs.Image.{place_image}
use Rattle.rules.proofs.Laws.Pieces.{standing}
use Rattle.image.proofs.table.put_relations.Given as goal

abbrev pub invariant-loop-i : goal.invariant-loop-i
invariant-loop-i l = l.buffer ≡ standing (place_image l.t) 6 l.initial.buffer (4 + l.t.events) l.i

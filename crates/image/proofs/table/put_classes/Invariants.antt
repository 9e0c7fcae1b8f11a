-- `image::table::put_classes` meets its contract: after e turns the classes of the first e events stand behind the header, and the rest is
-- as it was.
use Rattle.std.proofs.Common.{◌≡◌, ℕ, List}
use Rattle.rules.specs.Fields.{bytes_of}
use Rattle.rules.proofs.Laws.Pieces.{standing}
use Rattle.image.specs.declared.classes.Classes.{Classes}
use Rattle.image.specs.Packed.{class_word}
use Rattle.image.proofs.table.put_classes.Given as goal

abbrev pub bytes_at : Classes → ℕ → List ℕ
bytes_at classes e = bytes_of 1 (class_word classes.controllable classes.causable e)

abbrev pub invariant-loop-e : goal.invariant-loop-e
invariant-loop-e l = l.buffer ≡ standing (bytes_at l.classes) 1 l.initial.buffer 4 l.e

-- `image::classes::classes_from` meets its contract: after e turns no class of the first e events has a spare bit, and each set has those of
-- them whose bit is set.
use Rattle.std.proofs.Common.{◌≡◌}
use Rattle.rules.specs.EventSet.{set_of}
use Rattle.rules.specs.Numbers.{first_of}
use Rattle.image.specs.Classes.{class_number, is_controllable_in, is_causable_in}
use Rattle.image.proofs.classes.classes_from.Given as goal

abbrev pub invariant-loop-e : goal.invariant-loop-e
invariant-loop-e l = record {
  clear : first_of l.e (class_number l.bytes) ≡ 0;
  controls : l.controllable ≡ set_of l.e (is_controllable_in l.bytes);
  causes : l.causable ≡ set_of l.e (is_causable_in l.bytes);
}

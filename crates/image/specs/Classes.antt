-- The classes of as many events as there are bytes: controllable 1, causable 1, spare 6.
use Rattle.std.specs.Prelude.{List, ℕ, ◌+◌, ◌*◌, eqb, length, Bool, not}
use Rattle.rules.specs.Numbers.{◌if◌, first_of}
use Rattle.rules.specs.EventSet.{set_of}
use Rattle.rules.specs.Fields.{field, flag}
use Rattle.image.specs.declared.classes.Classes.{Classes}

-- the number of a spare bit
abbrev pub class_number : List ℕ → ℕ → ℕ
class_number bytes e = 2 if not (eqb (field bytes (8 * e + 2) 6) 0)

abbrev pub is_controllable_in : List ℕ → ℕ → Bool
is_controllable_in bytes e = flag bytes (8 * e)

abbrev pub is_causable_in : List ℕ → ℕ → Bool
is_causable_in bytes e = flag bytes (8 * e + 1)

abbrev pub classes_number : List ℕ → ℕ
classes_number bytes = first_of (length bytes) (class_number bytes)

abbrev pub classes_of : List ℕ → Classes
classes_of bytes = record {
  controllable = set_of (length bytes) (is_controllable_in bytes);
  causable = set_of (length bytes) (is_causable_in bytes);
}

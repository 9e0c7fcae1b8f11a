-- The classes in a byte, and the step of a loop over the bytes. Assumes nothing.
use Rattle.std.specs.Prelude.{◌≡◌, Bool, cond, List, ℕ, ◌+◌, ◌*◌, ◌/◌, ◌%◌, ◌^◌, ◌<◌, eqb, get_or}
use Rattle.std.proofs.Common.{sym, ap, ◌∙◌, arith}
use Rattle.rules.specs.EventSet.{set_of}
use Rattle.rules.specs.Fields.{field}
use Rattle.rules.proofs.Laws.EventSet.{set_grown, set_fits}
use Rattle.rules.proofs.Laws.Fields.{field_part, first_part, last_part, byte_field}
use Rattle.image.specs.Classes.{is_controllable_in, is_causable_in}

-- controllable 1, causable 1, spare 6
module _ (bytes : List ℕ) (e : ℕ) (byte : get_or bytes e 0 < 256) where
  byte_controllable : eqb (get_or bytes e 0 / 2 ^ 7) 1 ≡ is_controllable_in bytes e
  byte_controllable =
      let one : get_or bytes e 0 / 2 ^ 7 ≡ get_or bytes e 0 / 2 ^ 7 % 2 = omega arith in
      rw one (ap (λ (w : ℕ). eqb (w / 2 ^ 7 % 2) 1) (sym (byte_field bytes e byte)) ∙ rw (first_part bytes (8 * e) 1 7))

  byte_causable : eqb (get_or bytes e 0 / 2 ^ 6 % 2) 1 ≡ is_causable_in bytes e
  byte_causable = ap (λ (w : ℕ). eqb (w / 2 ^ 6 % 2) 1) (sym (byte_field bytes e byte)) ∙ rw (field_part bytes (8 * e) 1 1 6)

  pub byte_spare : get_or bytes e 0 % 64 ≡ field bytes (8 * e + 2) 6
  byte_spare = ap (λ (w : ℕ). w % 64) (sym (byte_field bytes e byte)) ∙ sym (last_part bytes (8 * e) 2 6)

-- a set with the next event's class is the set of one event more, and fits a word
class_grown : (f : ℕ → Bool) (e set event : ℕ) {there : Bool} → e < 64 → set ≡ set_of e f → event ≡ cond there (2 ^ e) 0 → there ≡ f e
    → (set + event ≡ set_of (e + 1) f) × (set + event < 2 ^ 64)
class_grown f e set event b p q r =
    let grown = set_grown f e set event p q r in
    (grown, rw grown (set_fits f (e + 1) (omega arith)))

module _ (bytes : List ℕ) (e : ℕ) (byte : get_or bytes e 0 < 256) (b : e < 64) (set event : ℕ) where
  pub controls_grown : set ≡ set_of e (is_controllable_in bytes) → event ≡ cond (eqb (get_or bytes e 0 / 2 ^ 7) 1) (2 ^ e) 0
      → (set + event ≡ set_of (e + 1) (is_controllable_in bytes)) × (set + event < 2 ^ 64)
  controls_grown p q = class_grown (is_controllable_in bytes) e set event b p q (byte_controllable bytes e byte)

  pub causes_grown : set ≡ set_of e (is_causable_in bytes) → event ≡ cond (eqb (get_or bytes e 0 / 2 ^ 6 % 2) 1) (2 ^ e) 0
      → (set + event ≡ set_of (e + 1) (is_causable_in bytes)) × (set + event < 2 ^ 64)
  causes_grown p q = class_grown (is_causable_in bytes) e set event b p q (byte_causable bytes e byte)

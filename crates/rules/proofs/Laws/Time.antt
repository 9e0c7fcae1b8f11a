-- A set that is gathered event by event in a 64-bit word, one shift and one sum for each event that a test takes in; and what an empty set
-- says of its test. Assumes nothing.
use Rattle.std.specs.Prelude.{◌≡◌, refl, Bool, true, false, not, ℕ, ◌<◌, ◌*◌, ◌^◌, ◌%◌, eqb}
use Rattle.std.proofs.Common.{◌∙◌, ap, sym, one-mul, arith, eq-eqb, ne_eqb, lit<, shl_exact, pow_pos}
use Rattle.rules.specs.Counting.{some}
use Rattle.rules.specs.EventSet.{has, set_of}
use Rattle.rules.specs.declared.Marking.{Marking}
use Rattle.rules.specs.Time.{due_set, any_due}
use Rattle.rules.proofs.Laws.Tests.{clash, not_true, not_false}
use Rattle.rules.proofs.Laws.Counting.{some_where, some_not}
use Rattle.rules.proofs.Laws.EventSet.{has_zero, set_has, set_lt_power, same_members}

-- the word of one event, as the machine shifts it
pub one_shifted : (n : ℕ) → n < 64 → 1 * 2 ^ n % 2 ^ 64 ≡ 2 ^ n
one_shifted n b = shl_exact 1 n 64 (lit< tt) (omega arith) ∙ one-mul (2 ^ n)

module _ (f : ℕ → Bool) (n : ℕ) where
  -- empty exactly where the test holds nowhere
  pub set_empty : eqb (set_of n f) 0 ≡ not (some n f)
  set_empty = go (some n f) refl
    where
      go : (b : Bool) → some n f ≡ b → eqb (set_of n f) 0 ≡ not b
      go true e =
          let at = some_where f n e in
          ne_eqb (set_of n f) 0 (λ z. clash (set_has f n at.0 at.1 ∙ at.2) (ap (λ (w : ℕ). has w at.0) z ∙ has_zero at.0))
      go false e =
          eq-eqb (set_of n f) 0
          (same_members n (set_of n f) 0 (set_lt_power f n) (pow_pos n) (λ x b. set_has f n x b ∙ some_not f n x e b ∙ sym (has_zero x)))

-- no event is due exactly where the due events are none
pub none_due_yet : (m : Marking) → due_set m ≡ 0 → any_due m ≡ false
unfolding due_set any_due
none_due_yet m h = not_true _ (sym (set_empty _ m.events) ∙ eq-eqb _ 0 h)

pub some_due_still : (m : Marking) → (due_set m ≡ 0 → ⊥) → any_due m ≡ true
unfolding due_set any_due
some_due_still m h = not_false _ (sym (set_empty _ m.events) ∙ ne_eqb _ 0 h)

-- Words known by their members: as the set of a test, without another set, the first events, without the lowest event, and that taking it is a
-- turn. Assumes nothing.
use Rattle.std.specs.Prelude.{◌≡◌, refl, Bool, true, false, not, ◌&&◌, ℕ, ◌<◌, ◌≤◌, ◌+◌, ◌-◌, ◌/◌, ◌%◌, ◌^◌, eqb, ltb}
use Rattle.std.proofs.Common.{◌∙◌, ap, sym, ⊎_elim, arith, lit<, shr-shr, pow_pos, eq-eqb, ne_eqb, lt-ltb, le-ltb, ltb-true, ltb-false}
use Rattle.std.proofs.Math.Bool.{and-true}
use Rattle.std.proofs.Math.Decide.{ℕ_discrete}
use Rattle.std.specs.Int.Bits.{bit_and}
use Rattle.rules.specs.EventSet.{has, set_of, lowest_of}
use Rattle.rules.proofs.Laws.Tests.{not_false, same_test, and_false}
use Rattle.rules.proofs.Laws.Counting.{Found, lowest_cases}
use Rattle.rules.proofs.Laws.EventSet.{has_zero, has_small, set_has, set_holds, has_minus_same, has_minus_other}
use Rattle.rules.proofs.Laws.Bitwise.{has_and, has_not}
use Rattle.rules.proofs.Laws.Turns.{same_word, empty_word, worth_le}
use Rattle.acts.specs.Derived.{every_event}
use Rattle.acts.specs.Events.{Taken}

-- a word is the set of a test, if its members exist and pass the test where they exist
pub set_by_test : (n w : ℕ) (f : ℕ → Bool) → ((x : ℕ) → has w x ≡ true → x < n) → ((x : ℕ) → x < n → has w x ≡ f x) → w ≡ set_of n f
set_by_test n w f exists same = same_word w (set_of n f) (λ x. same_test (has w x) (has (set_of n f) x) (there x) (back x))
  where
    there : (x : ℕ) → has w x ≡ true → has (set_of n f) x ≡ true
    there x h = let b = exists x h in set_has f n x b ∙ sym (same x b) ∙ h

    back : (x : ℕ) → has (set_of n f) x ≡ true → has w x ≡ true
    back x h = let p = set_holds f n x h in same x p.0 ∙ p.1

-- the events of one set without those of another, as the machine makes them
pub has_without : (v w x : ℕ) → v < 2 ^ 64 → w < 2 ^ 64 → has (bit_and v (2 ^ 64 - 1 - w)) x ≡ (has v x && not (has w x))
has_without v w x a b = has_and v (2 ^ 64 - 1 - w) x ∙ go (ltb x 64) refl
  where
    go : (t : Bool) → ltb x 64 ≡ t → (has v x && has (2 ^ 64 - 1 - w) x) ≡ (has v x && not (has w x))
    go true e = ap (λ (t : Bool). has v x && t) (has_not 64 w x b (ltb-true x 64 e))
    go false e = rw (has_small v 64 x a (ltb-false x 64 e))

-- a set that has no event without those of another lies in that one
pub without_none : (v w left : ℕ) → ((x : ℕ) → has left x ≡ (has v x && not (has w x))) → left ≡ 0 → (x : ℕ) → has v x ≡ true → has w x ≡ true
without_none v w left made none x h = not_false (has w x) (sym (made x ∙ rw h) ∙ ap (λ (s : ℕ). has s x) none ∙ has_zero x)

-- every event of a word
pub has_every : (x : ℕ) → has every_event x ≡ ltb x 64
has_every x = go (ltb x 64) refl
  where
    go : (t : Bool) → ltb x 64 ≡ t → has every_event x ≡ t
    go true e = has_not 64 0 x (lit< tt) (ltb-true x 64 e) ∙ ap not (has_zero x)
    go false e = has_small every_event 64 x (lit< tt) (ltb-false x 64 e)

-- and the first n of them, as the machine makes them
pub has_first : (n x : ℕ) → n ≤ 64 → has (every_event / 2 ^ (64 - n)) x ≡ ltb x n
unfolding has
has_first n x b = ap (λ (d : ℕ). eqb (d % 2) 1) (shr-shr every_event (64 - n) x) ∙ has_every (64 - n + x) ∙ go (ltb x n) refl
  where
    go : (t : Bool) → ltb x n ≡ t → ltb (64 - n + x) 64 ≡ t
    go true e = lt-ltb (64 - n + x) 64 (omega (arith, ltb-true x n e))
    go false e = le-ltb (64 - n + x) 64 (omega (arith, ltb-false x n e))

-- the lowest event of a word that is not 0 is there, and no event below it
module _ (w : ℕ) (fits : w < 2 ^ 64) (some-event : w ≡ 0 → ⊥) (e : ℕ) (at : e ≡ lowest_of w) where
  pub lowest_found : Found (has w) 64 e
  unfolding lowest_of
  lowest_found = rw at (⊎_elim (λ d. d) (λ d. absurd (some-event (empty_word w fits d.nowhere))) (lowest_cases (has w) 64))

  -- it can be taken out, and the word is then smaller
  pub lowest_worth : 2 ^ e ≤ w
  lowest_worth = worth_le w e lowest_found.holds

  pub lowest_less : w - 2 ^ e < w
  lowest_less = omega (arith, lowest_worth, pow_pos e)

  pub has_rest : (x : ℕ) → has (w - 2 ^ e) x ≡ (has w x && not (eqb x e))
  has_rest x = go (ℕ_discrete x e)
    where
      go : Dec (x ≡ e) → has (w - 2 ^ e) x ≡ (has w x && not (eqb x e))
      go (yes q) = ap (has (w - 2 ^ e)) q ∙ has_minus_same w e lowest_found.holds ∙ rw (eq-eqb x e q) (sym (and_false (has w x)))
      go (no n) = has_minus_other w e lowest_found.holds x n ∙ rw (ne_eqb x e n) (sym (and-true (has w x)))

  -- so it is taken, and the others are left
  pub lowest_taken : Taken w e (w - 2 ^ e)
  lowest_taken = let d = lowest_found in
      record { small = d.small; inside = d.holds; first = d.first; worth = lowest_worth; others = refl; less = lowest_less }

-- A loop over the events of a set: what is said of the set is said of the event that is taken out, or of the rest. Assumes nothing.
use Rattle.std.specs.Prelude.{◌≡◌, Bool, true, false, ◌&&◌, ◌||◌, ◌⊎◌, ℕ, ◌<◌, ◌-◌, ◌^◌, eqb}
use Rattle.std.proofs.Common.{◌∙◌, ap, sym, ⊎_elim, inl, inr, eq-eqb, ne_eqb}
use Rattle.std.proofs.Math.Bool.{and-true, or_assoc}
use Rattle.std.proofs.Math.Decide.{ℕ_discrete}
use Rattle.std.specs.Int.Bits.{bit_or}
use Rattle.rules.specs.Counting.{some, lowest}
use Rattle.rules.specs.EventSet.{has, with_event}
use Rattle.rules.proofs.Laws.Tests.{clash, denied, both, either, join, or_left, or_right, and_false, or_false, same_test}
use Rattle.rules.proofs.Laws.Counting.{some_where, some_at, some_false, lowest_cases}
use Rattle.rules.proofs.Laws.EventSet.{has_zero, has_minus_same, has_minus_other, has_with}
use Rattle.rules.proofs.Laws.Bitwise.{has_or}
use Rattle.rules.proofs.Laws.Turns.{same_word}

-- a word that is not 0 has a member
pub some_member : (n w : ℕ) → ((x : ℕ) → has w x ≡ true → x < n) → (w ≡ 0 → ⊥) → (x : ℕ) × (has w x ≡ true)
some_member n w exists filled =
    ⊎_elim
    (λ d. (lowest n (has w), d.holds))
    (λ d. absurd (filled (same_word w 0 (λ x. denied (has w x) (λ h. clash h (d.nowhere x (exists x h))) ∙ sym (has_zero x)))))
    (lowest_cases (has w) n)

-- an event of the set is the one that is taken out, or is one of the rest
module _ (w e : ℕ) (inside : has w e ≡ true) (f : ℕ → Bool) where
  pub each_out : (x : ℕ) → (has w x && f x) ≡ ((eqb e x && f e) || (has (w - 2 ^ e) x && f x))
  each_out x = go (ℕ_discrete x e)
    where
      go : Dec (x ≡ e) → (has w x && f x) ≡ ((eqb e x && f e) || (has (w - 2 ^ e) x && f x))
      go (yes q) =
          let gone : has (w - 2 ^ e) x ≡ false = ap (has (w - 2 ^ e)) q ∙ has_minus_same w e inside in
          let there : has w x ≡ true = ap (has w) q ∙ inside in
          rw (gone, there, eq-eqb e x (sym q)) (ap f q ∙ sym (or_false (f e)))
      go (no n) = rw (ne_eqb e x (λ q. n (sym q)), has_minus_other w e inside x n)

  pub some_out : (n : ℕ) → e < n → some n (λ x. has w x && f x) ≡ (f e || some n (λ x. has (w - 2 ^ e) x && f x))
  some_out n small = same_test _ _ there back
    where
      rest : ℕ → Bool
      rest x = has (w - 2 ^ e) x && f x

      split : (x : ℕ) → x < n → (eqb e x && f e ≡ true) ⊎ (rest x ≡ true) → f e || some n rest ≡ true
      split x b (inl q) = or_left (f e) _ (both (eqb e x) (f e) q).1
      split x b (inr q) = or_right (f e) _ (some_at rest n x b q)

      there : some n (λ x. has w x && f x) ≡ true → f e || some n rest ≡ true
      there h = let x = some_where _ n h in split x.0 x.1 (either (eqb e x.0 && f e) (rest x.0) (sym (each_out x.0) ∙ x.2))

      back : f e || some n rest ≡ true → some n (λ x. has w x && f x) ≡ true
      back h =
          ⊎_elim
          (λ (q : f e ≡ true). some_at (λ x. has w x && f x) n e small (join inside q))
          (λ (q : some n rest ≡ true). let x = some_where rest n q in
          some_at (λ x. has w x && f x) n x.0 x.1 (each_out x.0 ∙ or_right (eqb e x.0 && f e) (rest x.0) x.2))
          (either (f e) (some n rest) h)

-- The words of a set's events, or-ed one after the other: what is found, with what the rest still bring, stays the same.
module _ (row : ℕ → ℕ) (x : ℕ) where
  abbrev pub brought : ℕ → Bool
  brought set = some 64 (λ e. has set e && has (row e) x)

  pub brought_start : (set : ℕ) → (has 0 x || brought set) ≡ brought set
  brought_start set = rw (has_zero x)

  pub brought_more : (found left e : ℕ) {whole : Bool} → e < 64 → has left e ≡ true → (has found x || brought left) ≡ whole
      → (has (bit_or found (row e)) x || brought (left - 2 ^ e)) ≡ whole
  brought_more found left e small inside old =
      ap (λ (b : Bool). b || brought (left - 2 ^ e)) (has_or found (row e) x) ∙ or_assoc (has found x) (has (row e) x) (brought (left - 2 ^ e))
      ∙ ap (λ (b : Bool). has found x || b) (sym (some_out left e inside (λ y. has (row y) x) 64 small)) ∙ old

  pub brought_end : (found left : ℕ) {whole : Bool} → left ≡ 0 → (has found x || brought left) ≡ whole → has found x ≡ whole
  brought_end found left none old =
      sym (ap (λ (b : Bool). has found x || b) (some_false (λ e. has left e && has (row e) x) 64 (λ e l. rw (none, has_zero e))) ∙ or_false (has found x)) ∙ old

-- The events of a set that pass a test, one after the other.
module _ (f : ℕ → Bool) (x : ℕ) where
  pub chosen_start : (set : ℕ) → (has 0 x || (has set x && f x)) ≡ (has set x && f x)
  chosen_start set = rw (has_zero x)

  pub chosen_in : (found left e : ℕ) {r : ℕ} {whole : Bool} → has left e ≡ true → f e ≡ true → r ≡ with_event found e
      → (has found x || (has left x && f x)) ≡ whole
      → (has r x || (has (left - 2 ^ e) x && f x)) ≡ whole
  chosen_in found left e inside passes made old =
      ap (λ (b : Bool). b || (has (left - 2 ^ e) x && f x)) (ap (λ (v : ℕ). has v x) made ∙ has_with found e x)
      ∙ or_assoc (has found x) (eqb e x) (has (left - 2 ^ e) x && f x)
      ∙ ap (λ (b : Bool). has found x || b) (sym (each_out left e inside f x ∙ rw (passes, and-true (eqb e x)))) ∙ old

  pub chosen_out : (found left e : ℕ) {r : ℕ} {whole : Bool} → has left e ≡ true → f e ≡ false → r ≡ found → (has found x || (has left x && f x)) ≡ whole
      → (has r x || (has (left - 2 ^ e) x && f x)) ≡ whole
  chosen_out found left e inside fails made old =
      ap (λ (v : ℕ). has v x || (has (left - 2 ^ e) x && f x)) made
      ∙ ap (λ (b : Bool). has found x || b) (sym (each_out left e inside f x ∙ rw (fails, and_false (eqb e x)))) ∙ old

  pub chosen_end : (found left : ℕ) {whole : Bool} → left ≡ 0 → (has found x || (has left x && f x)) ≡ whole → has found x ≡ whole
  chosen_end found left none old = sym (rw (none, has_zero x) (or_false (has found x))) ∙ old

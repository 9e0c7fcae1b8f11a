-- Laws of event sets in a word: members, a set by its members, one event more or fewer, size and lowest against the counts of bits.
-- Assumes nothing.
use Rattle.std.specs.Prelude.{◌≡◌, Bool, ◌||◌, ◌⊎◌, leb, ltb}
use Rattle.std.proofs.Math.Path.{refl, ap}
use Rattle.std.proofs.Common.{◌∙◌, ap₂, sym, subst, inl, inr, arith, one-add}
use Rattle.std.proofs.Math.Bool.{true, false, cond}
use Rattle.std.proofs.Math.Logic.{⊎_elim}
use Prim.Native.Nat.{ℕ, zero, suc, ◌<◌, ◌≤◌, ◌+◌, ◌*◌, ◌^◌, ◌/◌, ◌%◌, ◌-◌}
use native.Mathlib.Nat.{mod-lt, add-mul-div_left, add-mul-mod_self_right, add-div_right, pow-suc, one-mul, zero-mul, add-mul, add_comm, zero-div, le_of_lt}
use native.Mathlib.Nat.{mod-eq_of_lt}
use Rattle.std.proofs.Math.Numerals.{add-one}
use Rattle.std.proofs.Math.Dec.{eqb, lit<}
use Rattle.std.proofs.Math.Arith.{digits_lt}
use lib.Pow.{pow_pos, pow-add, split, shr-shr, shr_lt, mod-pow-add}
use borrow.Author.Tests.{eq-eqb, eqb-true, eqb-false, leb-true, leb-false}
use Rattle.rules.specs.EventSet.{has, set_of, with_event}
use Rattle.rules.proofs.Laws.Tests.{decide, clash, denied, last_or_below}

-- the digit behind `has`
pub has_digit : (w n : ℕ) → has w n ≡ true → w / 2 ^ n % 2 ≡ 1
unfolding has
has_digit w n h = eqb-true (w / 2 ^ n % 2) 1 h

pub not_digit : (w n : ℕ) → has w n ≡ false → w / 2 ^ n % 2 ≡ 0
unfolding has
not_digit w n h = omega (arith, eqb-false (w / 2 ^ n % 2) 1 h)

pub digit_has : (w n : ℕ) → w / 2 ^ n % 2 ≡ 1 → has w n ≡ true
unfolding has
digit_has w n h = eq-eqb (w / 2 ^ n % 2) 1 h

pub has_zero : (n : ℕ) → has 0 n ≡ false
unfolding has
has_zero n = rw zero-div

either_order : (a b : ℕ) → (a ≤ b) ⊎ (b ≤ a)
either_order a b = go (leb a b) refl
  where
    go : (t : Bool) → leb a b ≡ t → (a ≤ b) ⊎ (b ≤ a)
    go true e = inl (leb-true a b e)
    go false e = inr (le_of_lt (leb-false a b e))

-- A bit that is clear is set by adding its worth.
module _ (w n : ℕ) (z : w / 2 ^ n % 2 ≡ 0) where
  above : (w + 2 ^ n) / 2 ^ n ≡ w / 2 ^ n + 1
  above = add-div_right w (pow_pos n)

  set_same : (w + 2 ^ n) / 2 ^ n % 2 ≡ 1
  set_same = rw above (omega (arith, z))

  set_higher : (j : ℕ) → (w + 2 ^ n) / 2 ^ (n + suc j) ≡ w / 2 ^ (n + suc j)
  set_higher j =
      sym (shr-shr (w + 2 ^ n) n (suc j)) ∙ ap (λ (x : ℕ). x / 2 ^ suc j) above
      ∙ halves (w / 2 ^ n + 1) ∙ ap (λ (x : ℕ). x / 2 ^ j) same_half ∙ sym (halves (w / 2 ^ n)) ∙ shr-shr w n (suc j)
    where
      same_half : (w / 2 ^ n + 1) / 2 ≡ w / 2 ^ n / 2
      same_half = omega (arith, z)

      halves : (q : ℕ) → q / 2 ^ suc j ≡ q / 2 / 2 ^ j
      halves q = ap (λ (x : ℕ). q / 2 ^ x) (omega arith) ∙ sym (shr-shr q 1 j)

  set_lower : (k j : ℕ) → n ≡ k + suc j → (w + 2 ^ n) / 2 ^ k % 2 ≡ w / 2 ^ k % 2
  set_lower k j e =
      ap (λ (x : ℕ). (w + x) / 2 ^ k % 2) (ap (λ (x : ℕ). 2 ^ x) e ∙ pow-add 2 k (suc j))
      ∙ ap (λ (x : ℕ). x % 2) (add-mul-div_left w (2 ^ suc j) (pow_pos k) ∙ ap (λ (x : ℕ). w / 2 ^ k + x) (pow-suc 2 j))
      ∙ add-mul-mod_self_right (w / 2 ^ k) (2 ^ j) 2

  set_other : (k : ℕ) → (k ≡ n → ⊥) → (w + 2 ^ n) / 2 ^ k % 2 ≡ w / 2 ^ k % 2
  set_other k ne =
      ⊎_elim
      (λ (l : k ≤ n). set_lower k (n - suc k) (omega arith))
      (λ (l : n ≤ k). let e : k ≡ n + suc (k - suc n) = omega arith in rw e (ap (λ (x : ℕ). x % 2) (set_higher (k - suc n))))
      (either_order k n)

  parts : w + 2 ^ n ≡ (w / 2 ^ n + 1) * 2 ^ n + w % 2 ^ n
  parts = ap (λ (x : ℕ). x + 2 ^ n) (sym (split w n)) ∙ rw (add-mul, one-mul) (omega arith)

  set_lt : (j : ℕ) → w < 2 ^ (n + suc j) → w + 2 ^ n < 2 ^ (n + suc j)
  set_lt j h =
      subst (λ (x : ℕ). x < 2 ^ (n + suc j)) (sym parts)
      (subst (λ (x : ℕ). (w / 2 ^ n + 1) * 2 ^ n + w % 2 ^ n < x) (sym (pow-add 2 (suc j) n) ∙ ap (λ (x : ℕ). 2 ^ x) (add_comm (suc j) n))
      (digits_lt room (mod-lt w (pow_pos n))))
    where
      room : w / 2 ^ n + 1 < 2 ^ suc j
      room =
          let q : w / 2 ^ n < 2 ^ suc j = shr_lt (suc j) n (subst (λ (x : ℕ). w < 2 ^ x) (add_comm n (suc j)) h) in
          omega (arith, q, z, pow-suc 2 j)

-- One event more, that was not in the set.
module _ (w n : ℕ) (out : has w n ≡ false) where
  pub has_plus_same : has (w + 2 ^ n) n ≡ true
  has_plus_same = digit_has (w + 2 ^ n) n (set_same w n (not_digit w n out))

  pub has_plus_other : (k : ℕ) → (k ≡ n → ⊥) → has (w + 2 ^ n) k ≡ has w k
  unfolding has
  has_plus_other k ne = ap (λ (x : ℕ). eqb x 1) (set_other w n (not_digit w n out) k ne)

  pub plus_lt : (k : ℕ) → n < k → w < 2 ^ k → w + 2 ^ n < 2 ^ k
  plus_lt k b h =
      let e : n + suc (k - suc n) ≡ k = omega arith in
      subst (λ (x : ℕ). w + 2 ^ n < 2 ^ x) e (set_lt w n (not_digit w n out) (k - suc n) (subst (λ (x : ℕ). w < 2 ^ x) (sym e) h))

-- a word below 2 ^ n has no event from n on
pub has_small : (w n k : ℕ) → w < 2 ^ n → n ≤ k → has w k ≡ false
has_small w n k h b =
    denied (has w k) (λ e. omega (arith, has_digit w k e, ap (λ (x : ℕ). x % 2) gone))
  where
    gone : w / 2 ^ k ≡ 0
    gone =
        let e : k ≡ n + (k - n) = omega arith in
        let low : w / 2 ^ n < 2 ^ 0 = shr_lt 0 n (subst (λ (x : ℕ). w < 2 ^ x) (sym (native.Mathlib.Nat.zero-add n)) h) in
        let z : w / 2 ^ n ≡ 0 = omega arith in
        ap (λ (x : ℕ). w / 2 ^ x) e ∙ sym (shr-shr w n (k - n)) ∙ ap (λ (x : ℕ). x / 2 ^ (k - n)) z ∙ zero-div (2 ^ (k - n))

-- A set by a test: its members are those below n at which the test holds.
module _ (f : ℕ → Bool) where
  pub set_lt_power : (n : ℕ) → set_of n f < 2 ^ n
  unfolding set_of
  set_lt_power zero = lit< tt
  set_lt_power (suc n) = go (f n) (set_lt_power n)
    where
      go : (b : Bool) → set_of n f < 2 ^ n → set_of n f + cond b (2 ^ n) 0 < 2 ^ suc n
      go true h = omega (arith, pow-suc 2 n)
      go false h = omega (arith, pow-suc 2 n)

  pub set_none_yet : (n : ℕ) → has (set_of n f) n ≡ false
  set_none_yet n = has_small (set_of n f) n n (set_lt_power n) (omega arith)

  -- a loop over the events adds one place more
  pub set_zero : set_of 0 f ≡ 0
  unfolding set_of
  set_zero = refl

  pub set_more : (n : ℕ) → set_of (n + 1) f ≡ set_of n f + cond (f n) (2 ^ n) 0
  unfolding set_of
  set_more n = rw add-one

  -- where its test says so
  pub set_grown : (i set event : ℕ) {there : Bool} → set ≡ set_of i f → event ≡ cond there (2 ^ i) 0 → there ≡ f i → set + event ≡ set_of (i + 1) f
  set_grown i set event p q r = ap₂ ◌+◌ p (q ∙ ap (λ (b : Bool). cond b (2 ^ i) 0) r) ∙ sym (set_more i)

  pub set_has : (n x : ℕ) → x < n → has (set_of n f) x ≡ f x
  unfolding set_of
  set_has zero x b = absurd (omega arith)
  set_has (suc n) x b =
      ⊎_elim
      (λ (q : x ≡ n). ap (has (set_of n f + cond (f n) (2 ^ n) 0)) q ∙ here (f n) ∙ ap f (sym q))
      (λ (l : x < n). there (f n) (λ q. omega (arith, q)) ∙ set_has n x l)
      (last_or_below b)
    where
      here : (t : Bool) → has (set_of n f + cond t (2 ^ n) 0) n ≡ t
      here true = has_plus_same (set_of n f) n (set_none_yet n)
      here false = ap (λ (v : ℕ). has v n) (omega arith) ∙ set_none_yet n

      there : (t : Bool) → (x ≡ n → ⊥) → has (set_of n f + cond t (2 ^ n) 0) x ≡ has (set_of n f) x
      there true ne = has_plus_other (set_of n f) n (set_none_yet n) x ne
      there false ne = ap (λ (v : ℕ). has v x) (omega arith)

  pub set_holds : (n x : ℕ) → has (set_of n f) x ≡ true → (x < n) × (f x ≡ true)
  set_holds n x h = go (ltb x n) refl
    where
      go : (t : Bool) → ltb x n ≡ t → (x < n) × (f x ≡ true)
      go true e = let b = borrow.Author.Tests.ltb-true x n e in (b, sym (set_has n x b) ∙ h)
      go false e = absurd (clash h (has_small (set_of n f) n x (set_lt_power n) (borrow.Author.Tests.ltb-false x n e)))

  pub set_fits : (n : ℕ) → n ≤ 64 → set_of n f < 2 ^ 64
  set_fits n b = native.Mathlib.Nat.lt_of_lt_of_le (set_lt_power n) (lib.Pow.pow_mono {i = n} {j = 64} b)

pub set_same_test : (f g : ℕ → Bool) (n : ℕ) → ((x : ℕ) → x < n → f x ≡ g x) → set_of n f ≡ set_of n g
unfolding set_of
set_same_test f g zero h = refl
set_same_test f g (suc n) h = rw (set_same_test f g n (λ x l. h x (omega arith)), h n (omega arith))

-- a word is the set of its members: so two words with the same members are one
members : (n w : ℕ) → set_of n (has w) ≡ w % 2 ^ n
unfolding set_of
members zero w = omega arith
members (suc n) w = go (has w n) refl (members n w)
  where
    whole : w % 2 ^ suc n ≡ w / 2 ^ n % 2 * 2 ^ n + w % 2 ^ n
    whole = ap (λ (x : ℕ). w % 2 ^ x) (sym (one-add n)) ∙ mod-pow-add w 1 n

    go : (b : Bool) → has w n ≡ b → set_of n (has w) ≡ w % 2 ^ n → set_of n (has w) + cond b (2 ^ n) 0 ≡ w % 2 ^ suc n
    go true e ih = omega (arith, ih, whole ∙ ap (λ (d : ℕ). d * 2 ^ n + w % 2 ^ n) (has_digit w n e) ∙ ap (λ (d : ℕ). d + w % 2 ^ n) (one-mul (2 ^ n)))
    go false e ih = omega (arith, ih, whole ∙ ap (λ (d : ℕ). d * 2 ^ n + w % 2 ^ n) (not_digit w n e) ∙ ap (λ (d : ℕ). d + w % 2 ^ n) (zero-mul (2 ^ n)))

pub set_of_members : (n w : ℕ) → w < 2 ^ n → set_of n (has w) ≡ w
set_of_members n w h = members n w ∙ mod-eq_of_lt h

pub same_members : (n v w : ℕ) → v < 2 ^ n → w < 2 ^ n → ((x : ℕ) → x < n → has v x ≡ has w x) → v ≡ w
same_members n v w a b h = sym (set_of_members n v a) ∙ set_same_test (has v) (has w) n h ∙ set_of_members n w b

-- One event fewer, that was in the set.
module _ (w n : ℕ) (inside : has w n ≡ true) where
  worth_le : 2 ^ n ≤ w
  worth_le =
      let q : 1 ≤ w / 2 ^ n = omega (arith, has_digit w n inside) in
      omega (arith, split w n, native.Mathlib.Nat.mul-le-mul_right (2 ^ n) q, one-mul (2 ^ n))

  minus_out : has (w - 2 ^ n) n ≡ false
  minus_out = denied (has (w - 2 ^ n) n) (λ e. omega (arith, has_digit (w - 2 ^ n) n e, has_digit w n inside, above_minus))
    where
      above_minus : w / 2 ^ n ≡ (w - 2 ^ n) / 2 ^ n + 1
      above_minus = let back : w - 2 ^ n + 2 ^ n ≡ w = omega (arith, worth_le) in ap (λ (x : ℕ). x / 2 ^ n) (sym back) ∙ add-div_right (w - 2 ^ n) (pow_pos n)

  pub has_minus_same : has (w - 2 ^ n) n ≡ false
  has_minus_same = minus_out

  pub has_minus_other : (k : ℕ) → (k ≡ n → ⊥) → has (w - 2 ^ n) k ≡ has w k
  has_minus_other k ne =
      let back : w - 2 ^ n + 2 ^ n ≡ w = omega (arith, worth_le) in
      sym (has_plus_other (w - 2 ^ n) n minus_out k ne) ∙ ap (λ (x : ℕ). has x k) back

pub has_with : (w n x : ℕ) → has (with_event w n) x ≡ (has w x || eqb n x)
unfolding with_event
has_with w n x = go (has w n) refl (decide (eqb n x))
  where
    or_true : (b : Bool) → (b || true) ≡ true
    or_true true = refl
    or_true false = refl

    or_none : (b : Bool) → b ≡ (b || false)
    or_none true = refl
    or_none false = refl

    go : (b : Bool) → has w n ≡ b → (eqb n x ≡ true) ⊎ (eqb n x ≡ false) → has (cond b w (w + 2 ^ n)) x ≡ (has w x || eqb n x)
    go true e (inl q) = let p : has w x ≡ true = ap (has w) (sym (eqb-true n x q)) ∙ e in rw p
    go true e (inr q) = rw q (or_none (has w x))
    go false e (inl q) = rw (q, or_true (has w x)) (ap (has (w + 2 ^ n)) (sym (eqb-true n x q)) ∙ has_plus_same w n e)
    go false e (inr q) = rw q (has_plus_other w n e x (λ y. eqb-false n x q (sym y)) ∙ or_none (has w x))

pub with_fits : (w n : ℕ) → n < 64 → w < 2 ^ 64 → with_event w n < 2 ^ 64
unfolding with_event
with_fits w n b h = go (has w n) refl
  where
    go : (t : Bool) → has w n ≡ t → cond t w (w + 2 ^ n) < 2 ^ 64
    go true e = h
    go false e = plus_lt w n e 64 b h

-- The first number given for refusal: by `if`, by `else`, and along a count. Assumes nothing.
use Rattle.std.specs.Prelude.{◌≡◌, Bool, true, false, ◌||◌, eqb}
use Rattle.std.proofs.Math.Path.{refl, ap}
use Rattle.std.proofs.Common.{◌∙◌, sym, arith, add-one, eqb-true}
use Rattle.std.proofs.Math.Logic.{⊎_elim}
use Prim.Native.Nat.{ℕ, zero, suc, ◌<◌, ◌+◌}
use Rattle.rules.specs.Counting.{some}
use Rattle.rules.specs.Numbers.{◌if◌, ◌else◌, first_of, done}
use Rattle.rules.proofs.Laws.Tests.{last_or_below}

-- a rule that is kept gives no number, one that is broken its own
pub if_kept : (n : ℕ) {b : Bool} → b ≡ false → n if b ≡ 0
if_kept n p = rw p

pub if_done : (n : ℕ) (b : Bool) → (suc n) if b ≡ 0 → b ≡ false
if_done n true h = absurd (omega (arith, h))
if_done n false h = refl

-- 'done' asks the next; any other number stands
pub else_done : {a : ℕ} (b : ℕ) → a ≡ 0 → (a else b) ≡ b
else_done b p = rw p

pub else_refused : {a : ℕ} (b : ℕ) → (a ≡ 0 → ⊥) → (a else b) ≡ a
else_refused {a = zero} b h = absurd (h refl)
else_refused {a = suc a} b h = refl

pub both_done : (a b : ℕ) → (a else b) ≡ 0 → (a ≡ 0) × (b ≡ 0)
both_done zero b h = (refl, h)
both_done (suc a) b h = absurd (omega (arith, h))

-- three in order, and one that nothing follows
pub else_joined : (a b c : ℕ) → ((a else b) else c) ≡ (a else (b else c))
else_joined zero b c = refl
else_joined (suc a) b c = refl

pub else_nothing : (a : ℕ) → (a else 0) ≡ a
else_nothing zero = refl
else_nothing (suc a) = refl

-- a number is 'done', or a refusal
pub by_number : {P : Type 0} (number : ℕ) → (number ≡ 0 → P) → (eqb number 0 ≡ false → P) → P
by_number {P = P} number granted refused = go (eqb number 0) refl
  where
    go : (b : Bool) → eqb number 0 ≡ b → P
    go true e = granted (eqb-true number 0 e)
    go false e = refused e

-- what is done, or what stands for it in a refusal
pub done_alike : {A : Type 0} (number : ℕ) (a b refused : A) → (number ≡ 0 → a ≡ b) → done number a refused ≡ done number b refused
done_alike number a b refused h = by_number number (λ z. rw (h z)) (λ r. rw r)

module _ (f : ℕ → ℕ) where
  -- nothing yet, and nothing from place i: nothing yet
  pub first_none : first_of 0 f ≡ 0
  unfolding first_of
  first_none = refl

  pub first_more : (i : ℕ) → first_of i f ≡ 0 → f i ≡ 0 → first_of (i + 1) f ≡ 0
  unfolding first_of
  first_more i p q = rw (add-one, p, q)

  -- all done below n: each is done
  pub first_each : (n i : ℕ) → first_of n f ≡ 0 → i < n → f i ≡ 0
  unfolding first_of
  first_each zero i h b = absurd (omega arith)
  first_each (suc n) i h b =
      let p = both_done (first_of n f) (f n) h in
      ⊎_elim (λ (q : i ≡ n). ap f q ∙ p.1) (λ (l : i < n). first_each n i p.0 l) (last_or_below b)

  pub first_done : (n : ℕ) → ((i : ℕ) → i < n → f i ≡ 0) → first_of n f ≡ 0
  unfolding first_of
  first_done zero h = refl
  first_done (suc n) h = rw (first_done n (λ i l. h i (omega arith)), h n (omega arith))

  -- nothing below i and a number at i: that number, however many follow
  pub first_here : (n i : ℕ) → i < n → first_of i f ≡ 0 → (f i ≡ 0 → ⊥) → first_of n f ≡ f i
  unfolding first_of
  first_here zero i b p h = absurd (omega arith)
  first_here (suc n) i b p h =
      ⊎_elim
      (λ (q : i ≡ n). rw (rw q at p) (ap f (sym q)))
      (λ (l : i < n). let e = first_here n i l p h in ap (λ (x : ℕ). x else f n) e ∙ else_refused (f n) h)
      (last_or_below b)

-- one number for whatever place breaks a rule: that number, if some place does
pub first_some : (k : ℕ) (f : ℕ → Bool) (n : ℕ) → first_of n (λ i. (suc k) if f i) ≡ (suc k) if some n f
unfolding first_of some
first_some k f zero = refl
first_some k f (suc n) = rw (first_some k f n) (go (some n f))
  where
    go : (b : Bool) → ((suc k) if b else (suc k) if f n) ≡ (suc k) if (b || f n)
    go true = refl
    go false = refl

-- two rules that give the same numbers give the same first
pub first_same : (f g : ℕ → ℕ) (n : ℕ) → ((i : ℕ) → i < n → f i ≡ g i) → first_of n f ≡ first_of n g
unfolding first_of
first_same f g zero h = refl
first_same f g (suc n) h = rw (first_same f g n (λ i l. h i (omega arith)), h n (omega arith))

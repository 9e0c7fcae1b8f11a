-- A search for the first number: what the next place gives; and along the first places of a list. Assumes nothing.
use Rattle.std.specs.Prelude.{◌≡◌, List, take}
use Rattle.std.proofs.Common.{sym, ap, ◌∙◌, get_or-take}
use Prim.Native.Nat.{ℕ, ◌+◌, ◌<◌}
use Rattle.std.proofs.Math.ListN.{get_or}
use Rattle.rules.specs.Numbers.{first_of}
use Rattle.rules.proofs.Laws.Numbers.{first_more, first_here}

-- it is refused: that is the first number
pub refused_next : (f : ℕ → ℕ) (n i : ℕ) → i < n → first_of i f ≡ 0 → {number : ℕ} → number ≡ f i → (number ≡ 0 → ⊥) → number ≡ first_of n f
refused_next f n i b clear e h = e ∙ sym (first_here f n i b clear (λ z. h (e ∙ z)))

module _ {A : Type 0} (f : A → ℕ) (l : List A) (d : A) (n i : ℕ) (b : i < n) (clear : first_of i (λ k. f (get_or l k d)) ≡ 0) where
  here : {number : ℕ} → number ≡ f (get_or (take n l) i d) → number ≡ f (get_or l i d)
  here e = e ∙ ap f (get_or-take n l i d b)

  pub refused_at : {number : ℕ} → number ≡ f (get_or (take n l) i d) → (number ≡ 0 → ⊥) → number ≡ first_of n (λ k. f (get_or l k d))
  refused_at e h = refused_next (λ k. f (get_or l k d)) n i b clear (here e) h

  -- it is done: nothing yet
  pub done_at : 0 ≡ f (get_or (take n l) i d) → first_of (i + 1) (λ k. f (get_or l k d)) ≡ 0
  done_at e = first_more (λ k. f (get_or l k d)) i clear (sym (here e))

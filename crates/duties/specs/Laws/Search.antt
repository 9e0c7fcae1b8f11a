-- The lowest event of a set at which a test holds, looked for from the lowest event of the set on. Assumes nothing.
use Rattle.std.specs.Prelude.{◌≡◌, Bool, true, false, not, ◌&&◌, ◌⊎◌, ℕ, Some, None, ◌-◌, ◌^◌, eqb}
use Rattle.std.proofs.Common.{◌∙◌, ap, sym, inl, inr, eq-eqb, ne_eqb, lt-ltb}
use Rattle.std.proofs.Math.Bool.{and-true}
use Rattle.std.proofs.Math.Decide.{ℕ_discrete}
use Rattle.rules.specs.Counting.{lowest}
use Rattle.rules.specs.EventSet.{has}
use Rattle.rules.proofs.Laws.Tests.{decide, both, denied, not_false, clash, and_false}
use Rattle.rules.proofs.Laws.Counting.{lowest_is, lowest_none}
use Rattle.rules.proofs.Laws.EventSet.{has_zero, has_minus_same, has_minus_other}
use Rattle.duties.specs.Inhibition.{place}
use Rattle.acts.specs.Events.{Taken}

-- what is left of a set without its lowest event
pub taken_rest : {w e rest : ℕ} → Taken w e rest → (x : ℕ) → has rest x ≡ (has w x && not (eqb x e))
taken_rest {w} {e} t x = ap (λ (v : ℕ). has v x) t.others ∙ go (ℕ_discrete x e)
  where
    go : Dec (x ≡ e) → has (w - 2 ^ e) x ≡ (has w x && not (eqb x e))
    go (yes q) = ap (has (w - 2 ^ e)) q ∙ has_minus_same w e t.inside ∙ rw (eq-eqb x e q) (sym (and_false (has w x)))
    go (no n) = has_minus_other w e t.inside x n ∙ rw (ne_eqb x e n) (sym (and-true (has w x)))

-- of the events of a set some are left, and the test holds at none of the others
pub record Searched (f : ℕ → Bool) (set left : ℕ) : Type 0 where
  pub within : (x : ℕ) → has left x ≡ true → has set x ≡ true
  pub passed : (x : ℕ) → has left x ≡ false → f x ≡ false

-- and without some of the events, if the test holds at none of these
pub searched_but : (f : ℕ → Bool) (set others left : ℕ) → ((x : ℕ) → has set x ≡ false → f x ≡ false)
    → ((x : ℕ) → has set x ≡ true → has others x ≡ true → f x ≡ false)
    → ((x : ℕ) → has left x ≡ (has set x && not (has others x))) → Searched f set left
searched_but f set others left out fails made = record {
  within = λ x h. (both (has set x) (not (has others x)) (sym (made x) ∙ h)).0;
  passed = λ x h. go x (sym (made x) ∙ h) (decide (has set x));
}
  where
    go : (x : ℕ) → (has set x && not (has others x)) ≡ false → (has set x ≡ true) ⊎ (has set x ≡ false) → f x ≡ false
    go x h (inl i) = fails x i (not_false (has others x) (sym (rw i) ∙ h))
    go x h (inr n) = out x n

module _ {f : ℕ → Bool} {set left : ℕ} (s : Searched f set left) where
  pub searched_none : left ≡ 0 → None ≡ place 64 (lowest 64 f)
  searched_none z = rw (lowest_none f 64 (λ y l. s.passed y (ap (λ (w : ℕ). has w y) z ∙ has_zero y)))

  -- the lowest event that is left
  module _ {e rest : ℕ} (t : Taken left e rest) where
    pub searched_here : f e ≡ true → Some e ≡ place 64 (lowest 64 f)
    searched_here h = rw (lowest_is f 64 e t.small h (λ y l. s.passed y (t.first y l)), lt-ltb e 64 t.small)

    pub searched_on : f e ≡ false → Searched f set rest
    searched_on h = record {
      within = λ x p. s.within x (both (has left x) (not (eqb x e)) (sym (taken_rest t x) ∙ p)).0;
      passed = λ x p. go x p (ℕ_discrete x e);
    }
      where
        go : (x : ℕ) → has rest x ≡ false → Dec (x ≡ e) → f x ≡ false
        go x p (yes q) = ap f q ∙ h
        go x p (no n) = s.passed x (denied (has left x) (λ y. clash (taken_rest t x ∙ rw (y, ne_eqb x e n)) p))

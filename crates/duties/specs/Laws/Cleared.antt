-- An event all of whose inhibitors are cleared can be cleared too, and no cleared event waits for itself: all that it waits for is lower in the
-- order. Assumes nothing.
use Rattle.std.specs.Prelude.{◌≡◌, true, false, cond, List, ◌⊎◌, ℕ, suc, ◌<◌, eqb}
use Rattle.std.proofs.Common.{◌∙◌, ap, sym, ⊎_elim, inl, inr, arith, eqb-true}
use Rattle.rules.specs.declared.Table.{Table}
use Rattle.rules.specs.EventSet.{has, with_event}
use Rattle.rules.specs.Check.{awaited}
use Rattle.rules.proofs.Laws.Tests.{decide, clash, denied, either, or_left}
use Rattle.rules.proofs.Laws.EventSet.{has_zero, has_with}
use Rattle.rules.specs.Shapes.Good.{GoodTable}
use Rattle.duties.specs.Inhibition.{word_of, Followed, Cleared}
use Rattle.duties.specs.Laws.Followed.{awaited_within}

module _ (words : List ℕ) where
  pub cleared_none : Cleared words 0
  cleared_none = record {
    rank = λ x. 0;
    most = 0;
    below = λ x h. absurd (clash h (has_zero x));
    lower = λ e x l h. absurd (clash h (has_zero e));
  }

  module _ {cleared : ℕ} (c : Cleared words cleared) where
    -- members keep their rank, and what is new is above them all
    pub cleared_with : (e : ℕ) → ((x : ℕ) → has (word_of words e) x ≡ true → has cleared x ≡ true)
        → Cleared words (with_event cleared e)
    cleared_with e inside = record {
      rank = rank;
      most = suc c.most;
      below = λ x h. ⊎_elim (λ p. rw (member x p) (omega (arith, c.below x p))) (λ p. rw (new x p) (omega arith)) (decide (has cleared x));
      lower = λ f x l h i. next f x l h i (decide (has cleared f));
    }
      where
        rank : ℕ → ℕ
        rank x = cond (has cleared x) (c.rank x) c.most

        member : (x : ℕ) → has cleared x ≡ true → rank x ≡ c.rank x
        member x h = rw h

        new : (x : ℕ) → has cleared x ≡ false → rank x ≡ c.most
        new x h = rw h

        kept : (x : ℕ) → has cleared x ≡ true → has (with_event cleared e) x ≡ true
        kept x h = has_with cleared e x ∙ or_left (has cleared x) (eqb e x) h

        is_new : (f : ℕ) → has (with_event cleared e) f ≡ true → has cleared f ≡ false → e ≡ f
        is_new f h n = ⊎_elim (λ p. absurd (clash p n)) (λ p. eqb-true e f p) (either (has cleared f) (eqb e f) (sym (has_with cleared e f) ∙ h))

        next : (f x : ℕ) → f < 64 → has (with_event cleared e) f ≡ true → has (word_of words f) x ≡ true
            → (has cleared f ≡ true) ⊎ (has cleared f ≡ false) → (has (with_event cleared e) x ≡ true) × (rank x < rank f)
        next f x l h i (inl p) = let q = c.lower f x l p i in (kept x q.0, rw (member x q.0, member f p) q.1)
        next f x l h i (inr n) =
            let q = inside x (ap (λ (y : ℕ). has (word_of words y) x) (is_new f h n) ∙ i) in
            (kept x q, rw (member x q, new f n) (c.below x q))

    pub cleared_off : (t : Table) → GoodTable t → Followed t t.count words → (e : ℕ) → e < 64 → has cleared e ≡ true → has (awaited t e) e ≡ false
    cleared_off t good made e b h =
        denied (has (awaited t e) e)
        (λ itself. let p = awaited_within t good words made (λ y. (has cleared y ≡ true) × (c.rank y < c.rank e))
        (λ f x l p i. let q = c.lower f x l p.0 i in (q.0, omega (arith, q.1, p.1))) e b (λ x i. c.lower e x b h i) e itself in
        omega (arith, p.1))

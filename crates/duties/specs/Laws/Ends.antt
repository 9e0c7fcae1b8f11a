-- The events to which relations lead, as a word: what the rows of a sort give is known by the relations of that sort. Assumes nothing.
use Rattle.std.specs.Prelude.{◌≡◌, refl, Bool, true, false, ◌&&◌, ◌||◌, List, ℕ, ◌<◌, eqb, ltb}
use Rattle.std.proofs.Common.{◌∙◌, ap, ap₂, sym, subst, ⊎_elim, eqb-true, eq-eqb, ne_eqb, lt-ltb}
use Rattle.std.proofs.Math.Bool.{and-true, and-or_distrib_right}
use Rattle.std.proofs.Math.Decide.{ℕ_discrete}
use Rattle.std.specs.Int.Bits.{bit_or, bit_and}
use Rattle.rules.specs.declared.Table.{Table}
use Rattle.rules.specs.Counting.{some, lowest}
use Rattle.rules.specs.EventSet.{has}
use Rattle.rules.specs.Holds.{relation_of}
use Rattle.rules.specs.Effect.{leads}
use Rattle.rules.proofs.Laws.Tests.{clash, denied, both, join, and_false, same_test}
use Rattle.rules.proofs.Laws.Counting.{some_where, some_at, some_same, lowest_cases, lowest_none}
use Rattle.rules.proofs.Laws.EventSet.{has_zero}
use Rattle.rules.proofs.Laws.Bitwise.{has_or, has_and}
use Rattle.rules.specs.Shapes.Good.{GoodTable}
use Rattle.acts.specs.Derived.{sort_of, row_of, sorted, Derived}
use Rattle.duties.specs.Inhibition.{led_to}
use Rattle.duties.specs.Reasons.{Led, Ends}
use Rattle.acts.specs.Laws.Derived.{left_small}
use Rattle.acts.specs.Laws.Sorted.{some_either}
use Rattle.duties.specs.Laws.Followed.{some_besides}
use Rattle.acts.specs.Laws.Each.{some_member}

-- a relation of a sort, from a set
abbrev pub from : Table → ℕ → ℕ → ℕ → Bool
from t s set k = eqb (sort_of (relation_of t k)) s && has set (relation_of t k).left

module _ (t : Table) where
  -- the event at which a relation of the test ends
  pub ends_where : (f : ℕ → Bool) (w x : ℕ) → Ends t f w → has w x ≡ true → (k : ℕ) × (k < t.count) × (f k ≡ true) × ((relation_of t k).right ≡ x)
  ends_where f w x made h =
      let k = some_where _ t.count (sym (made x) ∙ h) in
      let p = both (f k.0) (eqb (relation_of t k.0).right x) k.2 in
      (k.0, k.1, p.0, eqb-true _ _ p.1)

  pub ends_at : (f : ℕ → Bool) (w k : ℕ) → Ends t f w → k < t.count → f k ≡ true → has w (relation_of t k).right ≡ true
  ends_at f w k made b h =
      let x = (relation_of t k).right in made x ∙ some_at (λ j. f j && eqb (relation_of t j).right x) t.count k b (join h (eq-eqb x x refl))

  pub ends_same : (f g : ℕ → Bool) (w : ℕ) → ((k : ℕ) → k < t.count → f k ≡ g k) → Ends t f w → Ends t g w
  ends_same f g w same made x = made x ∙ some_same _ _ t.count (λ k b. ap (λ (a : Bool). a && eqb (relation_of t k).right x) (same k b))

  pub ends_or : (f g : ℕ → Bool) (v w : ℕ) → Ends t f v → Ends t g w → Ends t (λ k. f k || g k) (bit_or v w)
  ends_or f g v w one other x =
      has_or v w x ∙ ap₂ ◌||◌ (one x) (other x) ∙ some_either _ _ t.count
      ∙ some_same _ _ t.count (λ k b. sym (and-or_distrib_right (f k) (g k) (eqb (relation_of t k).right x)))

  pub ends_and : (f : ℕ → Bool) (v w : ℕ) → Ends t f v → Ends t (λ k. f k && has w (relation_of t k).right) (bit_and v w)
  ends_and f v w made x =
      has_and v w x ∙ ap (λ (b : Bool). b && has w x) (made x) ∙ some_besides _ (has w x) t.count
      ∙ some_same _ _ t.count (λ k b. go (f k) (relation_of t k).right (ℕ_discrete (relation_of t k).right x))
    where
      go : (a : Bool) (y : ℕ) → Dec (y ≡ x) → ((a && eqb y x) && has w x) ≡ ((a && has w y) && eqb y x)
      go true y (yes q) = rw (q, eq-eqb x x refl) (sym (and-true (has w x)))
      go true y (no n) = rw (ne_eqb y x n) (sym (and_false (has w y)))
      go false y d = refl

  -- the word tells whether there is such a relation
  pub ends_none : (f : ℕ → Bool) (w : ℕ) → Ends t f w → w ≡ 0 → lowest t.count f ≡ t.count
  ends_none f w made e =
      lowest_none f t.count (λ k b. denied (f k) (λ h. clash (ends_at f w k made b h) (ap (λ (v : ℕ). has v (relation_of t k).right) e ∙ has_zero _)))

  module _ (good : GoodTable t) where
    pub ends_exist : (f : ℕ → Bool) (w x : ℕ) → Ends t f w → has w x ≡ true → x < t.events
    ends_exist f w x made h = let k = ends_where f w x made h in subst (λ (y : ℕ). y < t.events) k.3 (good.relations_good k.0 k.1).right_exists

    pub ends_some : (f : ℕ → Bool) (w : ℕ) → Ends t f w → (w ≡ 0 → ⊥) → lowest t.count f < t.count
    ends_some f w made filled =
        let x = some_member t.events w (λ x h. ends_exist f w x made h) filled in
        let k = ends_where f w x.0 made x.1 in
        ⊎_elim (λ d. d.small) (λ d. absurd (clash k.2 (d.nowhere k.0 k.1))) (lowest_cases f t.count)

    -- what the relations of a sort lead to from a set
    module _ (rows : List ℕ) (made : Derived t t.count rows) where
      pub led_ends : (s set w : ℕ) → s < 8 → Led rows s set w → Ends t (from t s set) w
      led_ends s set w few led x = led x ∙ same_test _ _ there back
        where
          there : some 64 (led_to rows s set x) ≡ true → some t.count (λ k. from t s set k && eqb (relation_of t k).right x) ≡ true
          there h =
              let e = some_where (led_to rows s set x) 64 h in
              let p = both (has set e.0) (has (row_of rows e.0 s) x) e.2 in
              let k = some_where (sorted t s e.0 x) t.count (sym (made.row e.0 e.1 s few x) ∙ p.1) in
              let q = both (eqb (sort_of (relation_of t k.0)) s) (leads (relation_of t k.0) e.0 x) k.2 in
              let r = both (eqb (relation_of t k.0).left e.0) (eqb (relation_of t k.0).right x) q.1 in
              some_at (λ k. from t s set k && eqb (relation_of t k).right x) t.count k.0 k.1
              (join (join q.0 (ap (has set) (eqb-true _ _ r.0) ∙ p.0)) r.1)

          back : some t.count (λ k. from t s set k && eqb (relation_of t k).right x) ≡ true → some 64 (led_to rows s set x) ≡ true
          back h =
              let k = some_where (λ k. from t s set k && eqb (relation_of t k).right x) t.count h in
              let p = both (from t s set k.0) (eqb (relation_of t k.0).right x) k.2 in
              let q = both (eqb (sort_of (relation_of t k.0)) s) (has set (relation_of t k.0).left) p.0 in
              let l = (relation_of t k.0).left in
              let b = left_small t good k.0 k.1 in
              some_at (led_to rows s set x) 64 l b
              (join q.1 (made.row l b s few x ∙ some_at (sorted t s l x) t.count k.0 k.1 (join q.0 (join (eq-eqb l l refl) p.1))))

      -- from every event
      pub led_every : (s every w : ℕ) → s < 8 → ((x : ℕ) → has every x ≡ ltb x t.events) → Led rows s every w
          → Ends t (λ k. eqb (sort_of (relation_of t k)) s) w
      led_every s every w few all led =
          ends_same _ _ w (λ k b. go (eqb (sort_of (relation_of t k)) s) (all (relation_of t k).left ∙ lt-ltb _ _ (good.relations_good k b).left_exists))
          (led_ends s every w few led)
        where
          go : (a : Bool) {b : Bool} → b ≡ true → (a && b) ≡ a
          go true h = h
          go false h = refl

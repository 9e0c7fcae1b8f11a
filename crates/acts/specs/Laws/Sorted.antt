-- What e's relations of a sort lead to is what the rules ask of the table's relations. Assumes nothing.
use Rattle.std.specs.Prelude.{◌≡◌, Bool, true, false, ◌&&◌, cond, eqb}
use Rattle.std.proofs.Math.Path.{refl, ap₂}
use Rattle.std.proofs.Common.{◌∙◌, ap, sym}
use Rattle.std.proofs.Math.Bool.{◌||◌, and-or_distrib_right}
use Prim.Native.Nat.{ℕ, zero, suc}
use Rattle.rules.specs.declared.Relation.{Relation}
use Rattle.rules.specs.declared.Table.{Table}
use Rattle.rules.specs.Counting.{some}
use Rattle.rules.specs.Holds.{is_condition, is_milestone, is_response, is_inclusion, is_exclusion, relation_of}
use Rattle.rules.specs.Effect.{Deadline, none, eventually, within, smaller, is_pending, is_bounded, leads, given, smallest, response, includes, excludes}
use Rattle.rules.proofs.Laws.Counting.{some_same}
use Rattle.rules.specs.Shapes.Good.{GoodTable, GoodRelation}
use Rattle.acts.specs.Derived.{sort_of, sorted}
use Rattle.acts.specs.Laws.Sorts.{sorts}

-- some place for either of two tests
pub some_either : (f g : ℕ → Bool) (n : ℕ) → (some n f || some n g) ≡ some n (λ k. f k || g k)
unfolding some
some_either f g zero = refl
some_either f g (suc n) = go (some n f) (f n) (some n g) (g n) (some_either f g n)
  where
    go : (a b c d : Bool) {e : Bool} → (a || c) ≡ e → ((a || b) || (c || d)) ≡ (e || (b || d))
    go true b c d h = rw (sym h)
    go false true true d h = rw (sym h)
    go false true false d h = rw (sym h)
    go false false true d h = rw (sym h)
    go false false false d h = rw (sym h)

-- a deadline that some relation gives, and a bounded one
pending_either : (a b : Deadline) → is_pending (smaller a b) ≡ (is_pending a || is_pending b)
pending_either none b = refl
pending_either eventually none = refl
pending_either eventually eventually = refl
pending_either eventually (within d) = refl
pending_either (within c) none = refl
pending_either (within c) eventually = refl
pending_either (within c) (within d) = refl

bounded_either : (a b : Deadline) → is_bounded (smaller a b) ≡ (is_bounded a || is_bounded b)
bounded_either none b = refl
bounded_either eventually none = refl
bounded_either eventually eventually = refl
bounded_either eventually (within d) = refl
bounded_either (within c) none = refl
bounded_either (within c) eventually = refl
bounded_either (within c) (within d) = refl

given_pending : (k : Relation) (e x : ℕ) → is_pending (given k e x) ≡ (is_response k && leads k e x)
unfolding given
given_pending k e x = go (is_response k && leads k e x) k.bounded
  where
    go : (a b : Bool) → is_pending (cond a (cond b (within k.time) eventually) none) ≡ a
    go true true = refl
    go true false = refl
    go false b = refl

pub given_bounded : (k : Relation) (e x : ℕ) → is_bounded (given k e x) ≡ ((is_response k && k.bounded) && leads k e x)
unfolding given
given_bounded k e x = go (is_response k) (leads k e x) k.bounded
  where
    go : (a l b : Bool) → is_bounded (cond (a && l) (cond b (within k.time) eventually) none) ≡ ((a && b) && l)
    go true true true = refl
    go true true false = refl
    go true false true = refl
    go true false false = refl
    go false l b = refl

module _ (t : Table) (e x : ℕ) where
  pending_some : (n : ℕ) → is_pending (smallest t e x n) ≡ some n (λ k. is_response (relation_of t k) && leads (relation_of t k) e x)
  unfolding smallest some
  pending_some zero = refl
  pending_some (suc n) = pending_either (smallest t e x n) (given (relation_of t n) e x) ∙ ap₂ ◌||◌ (pending_some n) (given_pending (relation_of t n) e x)

  bounded_some : (n : ℕ) → is_bounded (smallest t e x n) ≡ some n (λ k. (is_response (relation_of t k) && (relation_of t k).bounded) && leads (relation_of t k) e x)
  unfolding smallest some
  bounded_some zero = refl
  bounded_some (suc n) = bounded_either (smallest t e x n) (given (relation_of t n) e x) ∙ ap₂ ◌||◌ (bounded_some n) (given_bounded (relation_of t n) e x)

  -- e has a relation of a sort to x; e has a relation to x that passes a test
  abbrev has_sort : ℕ → Bool
  has_sort s = some t.count (sorted t s e x)

  abbrev has_some : (Relation → Bool) → Bool
  has_some f = some t.count (λ k. f (relation_of t k) && leads (relation_of t k) e x)

  module _ (good : GoodTable t) where
    one_sort : (s : ℕ) (f : Relation → Bool) → ((k : Relation) → GoodRelation t.events k → eqb (sort_of k) s ≡ f k) → has_sort s ≡ has_some f
    one_sort s f same =
        some_same _ _ t.count (λ i b. let k = relation_of t i in ap (λ (a : Bool). a && leads k e x) (same k (good.relations_good i b)))

    two_sorts : (s r : ℕ) (f : Relation → Bool) → ((k : Relation) → GoodRelation t.events k → (eqb (sort_of k) s || eqb (sort_of k) r) ≡ f k)
        → (has_sort s || has_sort r) ≡ has_some f
    two_sorts s r f same =
        some_either (sorted t s e x) (sorted t r e x) t.count
        ∙ some_same _ _ t.count (λ i b. one (relation_of t i) (same (relation_of t i) (good.relations_good i b)))
      where
        one : (k : Relation) → (eqb (sort_of k) s || eqb (sort_of k) r) ≡ f k
            → ((eqb (sort_of k) s && leads k e x) || (eqb (sort_of k) r && leads k e x)) ≡ (f k && leads k e x)
        one k is = sym (and-or_distrib_right (eqb (sort_of k) s) (eqb (sort_of k) r) (leads k e x)) ∙ ap (λ (a : Bool). a && leads k e x) is

    pub conditions_are : (has_sort 0 || has_sort 1) ≡ has_some is_condition
    conditions_are = two_sorts 0 1 is_condition (λ k g. (sorts k g).conditions)

    pub milestones_are : has_sort 2 ≡ has_some is_milestone
    milestones_are = one_sort 2 is_milestone (λ k g. (sorts k g).milestones)

    pub responses_are : (has_sort 3 || has_sort 4) ≡ is_pending (response t e x)
    responses_are = two_sorts 3 4 is_response (λ k g. (sorts k g).responses) ∙ sym (pending_some t.count)

    pub bounded_are : has_sort 3 ≡ is_bounded (response t e x)
    bounded_are = one_sort 3 (λ k. is_response k && k.bounded) (λ k g. (sorts k g).answers) ∙ sym (bounded_some t.count)

    pub inclusions_are : (has_sort 5 || has_sort 7) ≡ includes t e x
    unfolding includes
    inclusions_are = two_sorts 5 7 is_inclusion (λ k g. (sorts k g).all_inclusions)

    pub exclusions_are : has_sort 6 ≡ excludes t e x
    unfolding excludes
    exclusions_are = one_sort 6 is_exclusion (λ k g. (sorts k g).exclusions)

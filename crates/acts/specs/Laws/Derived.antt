-- The rows and links that are derived from a table: which sorts there are, which of them are in chains, and what noting a relation leaves at
-- each place. Assumes nothing.
use Rattle.std.specs.Prelude.{◌≡◌, refl, Bool, true, false, ◌||◌, cond, List, ◌⊎◌, ℕ, ◌<◌, ◌≤◌, ◌+◌, ◌*◌, ◌%◌, eqb, ltb, length, get_or, set, replicate}
use Rattle.std.proofs.Common.{◌∙◌, ap, sym, inl, inr, arith}
use Rattle.std.proofs.Math.Decide.{ℕ_discrete}
use Rattle.std.proofs.Math.ListN.{length-set}
use Rattle.std.proofs.lemmas.List.{get_or-replicate}
use Rattle.std.proofs.Math.Seq.{get_or-set_same, get_or-set_other}
use borrow.Author.Tests.{eq-eqb, ne_eqb, eqb-true, ltb-true, lt-ltb}
use Rattle.rules.specs.declared.Relation.{Relation}
use Rattle.rules.specs.declared.Table.{Table}
use Rattle.rules.specs.Holds.{is_condition, is_response, is_inclusion, is_milestone, relation_of}
use Rattle.rules.specs.Counting.{some}
use Rattle.rules.specs.EventSet.{has, with_event}
use Rattle.rules.specs.Shapes.Good.{GoodTable}
use Rattle.rules.proofs.Laws.Tests.{and_false, or_false}
use Rattle.rules.proofs.Laws.Counting.{some_none, some_more}
use Rattle.rules.proofs.Laws.EventSet.{has_with, has_zero}
use Rattle.rules.proofs.Laws.Granted.{time_fits_lem}
use Rattle.acts.specs.Derived.{sort_of, row_of, sorted, Derived, Unlinked, chain_of, is_chained, link_of, row_noted, rows_begun, rows_noted, links_noted}

-- what a relation of a judged table holds fits its digits
module _ (t : Table) (g : GoodTable t) (k : ℕ) (b : k < t.count) where
  pub left_small : (relation_of t k).left < 64
  left_small = omega (arith, (g.relations_good k b).left_exists, g.few_events)

  pub right_small : (relation_of t k).right < 64
  right_small = omega (arith, (g.relations_good k b).right_exists, g.few_events)

  pub time_small : (relation_of t k).time < 1073741824
  time_small = omega (arith, time_fits_lem (relation_of t k) (g.relations_good k b).fits)

-- there are eight sorts
pub sort_small : (k : Relation) → sort_of k < 8
unfolding sort_of
sort_small k = go (is_condition k) (ltb 0 k.time) (is_milestone k) (is_response k) k.bounded (is_inclusion k) (eqb k.left k.right)
  where
    go : (a b c d e f g : Bool) → cond a (cond b 1 0) (cond c 2 (cond d (cond e 3 4) (cond f (cond g 7 5) 6))) < 8
    go true true c d e f g = omega arith
    go true false c d e f g = omega arith
    go false b true d e f g = omega arith
    go false b false true true f g = omega arith
    go false b false true false f g = omega arith
    go false b false false e true true = omega arith
    go false b false false e true false = omega arith
    go false b false false e false g = omega arith

-- a word that has the events of the first i relations: of relation i it takes event e, or nothing
pub has_taken : (f : ℕ → Bool) (i e w x : ℕ) → has w x ≡ some i f → f i ≡ eqb e x → has (with_event w e) x ≡ some (i + 1) f
has_taken f i e w x old new = has_with w e x ∙ ap (λ (b : Bool). b || eqb e x) old ∙ sym (some_more f i ∙ rw new)

pub has_passed : (f : ℕ → Bool) (i w x : ℕ) → has w x ≡ some i f → f i ≡ false → has w x ≡ some (i + 1) f
has_passed f i w x old new = old ∙ sym (some_more f i ∙ rw new (or_false (some i f)))

-- the rows of no relation, and of one more
pub derived_none : (t : Table) → Derived t 0 (replicate 640 0)
derived_none t = record {
  size = refl;
  row = λ e b s m x. ap (λ (w : ℕ). has w x) (get_or-replicate 640 (10 * e + s) 0 0 (omega arith)) ∙ has_zero x ∙ sym (some_none (sorted t s e x));
}

pub unlinked_none : Unlinked (replicate 640 0)
unlinked_none e b = (get_or-replicate 640 (10 * e + 8) 0 0 (omega arith), get_or-replicate 640 (10 * e + 9) 0 0 (omega arith))

module _ (t : Table) (i : ℕ) (small : (relation_of t i).left < 64) where
  abbrev noting : Relation
  noting = relation_of t i

  -- where it is noted
  abbrev place : ℕ
  place = 10 * noting.left + sort_of noting

  pub place_small : 10 * (relation_of t i).left + sort_of (relation_of t i) < 640
  place_small = omega (arith, small, sort_small noting)

  module _ (rows : List ℕ) (old : Derived t i rows) where
    abbrev rows_after : List ℕ
    rows_after = set rows place (with_event (get_or rows place 0) noting.right)

    pub unlinked_more : Unlinked rows
        → Unlinked
        (set rows (10 * (relation_of t i).left + sort_of (relation_of t i))
        (with_event (get_or rows (10 * (relation_of t i).left + sort_of (relation_of t i)) 0) (relation_of t i).right))
    unlinked_more none e b = (
      get_or-set_other rows place (10 * e + 8) _ 0 (λ h. absurd (omega (arith, sort_small noting, h))) ∙ (none e b).0,
      get_or-set_other rows place (10 * e + 9) _ 0 (λ h. absurd (omega (arith, sort_small noting, h))) ∙ (none e b).1,
    )

    pub derived_more : Derived t (i + 1)
        (set rows (10 * (relation_of t i).left + sort_of (relation_of t i))
        (with_event (get_or rows (10 * (relation_of t i).left + sort_of (relation_of t i)) 0) (relation_of t i).right))
    derived_more = record {
      size = length-set rows place _ ∙ old.size;
      row = λ e b s m x. at e b s m x (ℕ_discrete noting.left e) (ℕ_discrete (sort_of noting) s);
    }
      where
        -- another place is kept
        kept : (e : ℕ) → e < 64 → (s : ℕ) → s < 8 → (x : ℕ) → (10 * e + s ≡ place → ⊥) → sorted t s e x i ≡ false
            → has (row_of rows_after e s) x ≡ some (i + 1) (sorted t s e x)
        kept e b s m x apart out =
            ap (λ (w : ℕ). has w x) (get_or-set_other rows place (10 * e + s) _ 0 apart)
            ∙ has_passed (sorted t s e x) i (row_of rows e s) x (old.row e b s m x) out

        at : (e : ℕ) → e < 64 → (s : ℕ) → s < 8 → (x : ℕ) → Dec (noting.left ≡ e) → Dec (sort_of noting ≡ s)
            → has (row_of rows_after e s) x ≡ some (i + 1) (sorted t s e x)
        at e b s m x (yes p) (yes q) =
            rw (← p, ← q)
            (ap (λ (w : ℕ). has w x) (get_or-set_same rows place _ 0 (omega (arith, place_small, old.size)))
            ∙ has_taken (sorted t (sort_of noting) noting.left x) i noting.right (get_or rows place 0) x
            (old.row noting.left small (sort_of noting) (sort_small noting) x)
            (rw (eq-eqb (sort_of noting) (sort_of noting) refl, eq-eqb noting.left noting.left refl)))
        at e b s m x (no n) d =
            kept e b s m x (λ h. n (omega (arith, sort_small noting))) (rw (ne_eqb noting.left e n) (and_false (eqb (sort_of noting) s)))
        at e b s m x (yes p) (no n) = kept e b s m x (λ h. n (omega (arith, p))) (rw (ne_eqb (sort_of noting) s n))

-- two of them are in chains, whose beginnings stand after the eight words of a row
abbrev pub Chained : ℕ → ℕ → Type 0
Chained s place = ((s ≡ 3) × (place ≡ 8)) ⊎ ((s ≡ 1) × (place ≡ 9))

pub chain_cases : (s : ℕ) → chain_of s < 10 → Chained s (chain_of s)
unfolding chain_of
chain_cases s = go (eqb s 3) refl (eqb s 1) refl
  where
    go : (a : Bool) → eqb s 3 ≡ a → (b : Bool) → eqb s 1 ≡ b → cond a 8 (cond b 9 10) < 10 → Chained s (cond a 8 (cond b 9 10))
    go true p b q few = inl (eqb-true s 3 p, refl)
    go false p true q few = inr (eqb-true s 1 q, refl)
    go false p false q few = absurd (omega arith)

pub chain_after : (s : ℕ) → chain_of s < 10 → 8 ≤ chain_of s
chain_after s few = go (chain_cases s few)
  where
    go : Chained s (chain_of s) → 8 ≤ chain_of s
    go (inl p) = omega arith
    go (inr p) = omega arith

-- two sorts are in two chains
pub chain_same : (s r : ℕ) → chain_of s < 10 → chain_of s ≡ chain_of r → s ≡ r
chain_same s r few same = go (chain_cases s few) (chain_cases r (omega arith))
  where
    go : Chained s (chain_of s) → Chained r (chain_of r) → s ≡ r
    go (inl p) (inl q) = omega arith
    go (inl p) (inr q) = absurd (omega arith)
    go (inr p) (inl q) = absurd (omega arith)
    go (inr p) (inr q) = omega arith

-- a store that is made or not keeps the length, and every other place
module _ (words : List ℕ) (at word : ℕ) where
  length_if : (stored : Bool) → length (cond stored (set words at word) words) ≡ length words
  length_if true = length-set words at word
  length_if false = refl

  kept_if : (stored : Bool) (place : ℕ) → (stored ≡ true → place ≡ at → ⊥) → get_or (cond stored (set words at word) words) place 0 ≡ get_or words place 0
  kept_if true place apart = get_or-set_other words at place word 0 (apart refl)
  kept_if false place apart = refl

-- relation k, number i, is noted in the row from `at` on
module _ (rows : List ℕ) (at i : ℕ) (k : Relation) where
  abbrev begun : List ℕ
  begun = cond (is_chained k) (set rows (at + chain_of (sort_of k)) (i + 1)) rows

  length_begun : length begun ≡ length rows
  length_begun = length_if rows (at + chain_of (sort_of k)) (i + 1) (is_chained k)

  pub length_noted : length (rows_noted rows at i k) ≡ length rows
  unfolding rows_noted
  length_noted = simp length-set length_begun

  -- its beginning is noted, and then its word
  pub noted_begun : row_noted (rows_begun rows at i k) at k ≡ rows_noted rows at i k
  unfolding rows_noted
  noted_begun =
      ap (λ (w : ℕ). set begun (at + sort_of k) (with_event w k.right))
      (kept_if rows (at + chain_of (sort_of k)) (i + 1) (is_chained k) (at + sort_of k)
      (λ chained h. absurd (omega (arith, h, sort_small k, chain_after (sort_of k) (ltb-true _ _ chained)))))

  -- the word of its sort has its right event
  pub noted_sort : at + 10 ≤ length rows → get_or (rows_noted rows at i k) (at + sort_of k) 0 ≡ with_event (get_or rows (at + sort_of k) 0) k.right
  unfolding rows_noted
  noted_sort wide =
      get_or-set_same begun (at + sort_of k) (with_event (get_or rows (at + sort_of k) 0) k.right) 0 (omega (arith, length_begun, sort_small k))

  -- it begins the chain of its sort
  pub noted_chain : at + 10 ≤ length rows → chain_of (sort_of k) < 10 → get_or (rows_noted rows at i k) (at + chain_of (sort_of k)) 0 ≡ i + 1
  unfolding rows_noted
  noted_chain wide few =
      get_or-set_other begun (at + sort_of k) (at + chain_of (sort_of k)) (with_event (get_or rows (at + sort_of k) 0) k.right) 0
      (λ h. absurd (omega (arith, chain_after (sort_of k) few, sort_small k)))
      ∙ rw (lt-ltb (chain_of (sort_of k)) 10 few) (get_or-set_same rows (at + chain_of (sort_of k)) (i + 1) 0 (omega arith))

  -- every other place is kept
  pub noted_other : (place : ℕ) → (place ≡ at + sort_of k → ⊥) → (chain_of (sort_of k) < 10 → place ≡ at + chain_of (sort_of k) → ⊥)
      → get_or (rows_noted rows at i k) place 0 ≡ get_or rows place 0
  unfolding rows_noted
  noted_other place apart aside =
      get_or-set_other begun (at + sort_of k) place (with_event (get_or rows (at + sort_of k) 0) k.right) 0 apart
      ∙ kept_if rows (at + chain_of (sort_of k)) (i + 1) (is_chained k) place (λ h. aside (ltb-true (chain_of (sort_of k)) 10 h))

-- its link, if it is in a chain
module _ (links rows : List ℕ) (at i : ℕ) (k : Relation) where
  abbrev made : ℕ
  made = link_of (get_or rows (at + chain_of (sort_of k)) 0 % 512) k

  pub length_linked : length (links_noted links rows at i k) ≡ length links
  unfolding links_noted
  length_linked = length_if links i made (is_chained k)

  pub linked_here : i < length links → is_chained k ≡ true → get_or (links_noted links rows at i k) i 0 ≡ link_of (get_or rows (at + chain_of (sort_of k)) 0 % 512) k
  unfolding links_noted
  linked_here long chained = rw chained (get_or-set_same links i made 0 long)

  pub linked_other : (place : ℕ) → (place ≡ i → ⊥) → get_or (links_noted links rows at i k) place 0 ≡ get_or links place 0
  unfolding links_noted
  linked_other place apart = kept_if links i made (is_chained k) place (λ h. apart)

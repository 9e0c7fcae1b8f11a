-- The links of a table's relations: one relation more, the last of a sort, and what a link says. Assumes nothing.
use Rattle.std.specs.Prelude.{◌≡◌, Bool, List, eqb, ltb, length, replicate}
use Rattle.std.proofs.Math.Path.{refl}
use Rattle.std.proofs.Common.{◌∙◌, ap, sym, inl, inr, add-one, eq-eqb, ne_eqb, eqb-true, ltb-true}
use Rattle.std.proofs.Math.Bool.{true, false, cond}
use Prim.Native.Nat.{ℕ, zero, suc, ◌<◌, ◌≤◌, ◌+◌, ◌*◌, ◌/◌, ◌%◌}
use Rattle.std.proofs.Math.Decide.{ℕ_discrete}
use native.Mathlib.Omega.{arith}
use Rattle.std.proofs.Math.ListN.{get_or}
use Rattle.std.proofs.lemmas.List.{get_or-replicate}
use Rattle.rules.specs.declared.Relation.{Relation}
use Rattle.rules.specs.declared.Table.{Table}
use Rattle.rules.specs.Holds.{relation_of}
use Rattle.rules.specs.Counting.{some}
use Rattle.rules.specs.EventSet.{has}
use Rattle.rules.proofs.Laws.Tests.{both, join, and_false}
use Rattle.rules.proofs.Laws.Counting.{some_none}
use Rattle.rules.proofs.Laws.EventSet.{has_zero}
use Rattle.rules.specs.Shapes.Good.{GoodTable}
use Rattle.acts.specs.Derived.{sort_of, sorted, Derived, chain_of, is_chained, of_sort, last_of, link_of, Own, Linked, rows_noted, links_noted}
use Rattle.acts.specs.Laws.Derived.{right_small, time_small, sort_small, has_passed, has_taken}
use Rattle.acts.specs.Laws.Derived.{Chained, chain_cases, chain_after, chain_same}
use Rattle.acts.specs.Laws.Derived.{noted_sort, noted_chain, noted_other, length_noted, linked_here, linked_other, length_linked}

-- of all rows and links, those of one event
pub derived_own : (t : Table) (n e : ℕ) (rows links : List ℕ) → Derived t n rows → Linked t n rows links → e < 64 → Own t n e rows (10 * e) links
derived_own t n e rows links derived linked small = record {
  row = derived.row e small;
  responses = linked.responses e small;
  waits = linked.waits e small;
  link = λ k b own chained. linked.link k b chained ∙ ap (λ (left : ℕ). link_of (last_of t (sort_of (relation_of t k)) left k) (relation_of t k)) own;
}

-- the last of e's relations of a sort among the first n
module _ (t : Table) (s e : ℕ) where
  pub last_le : (n : ℕ) → last_of t s e n ≤ n
  unfolding last_of
  last_le zero = omega arith
  last_le (suc n) = go (of_sort t s e n) (last_le n)
    where
      go : (b : Bool) → last_of t s e n ≤ n → cond b (suc n) (last_of t s e n) ≤ suc n
      go true h = omega arith
      go false h = omega arith

  -- it is one of that sort
  pub last_of_sort : (n k : ℕ) → last_of t s e n ≡ suc k → of_sort t s e k ≡ true
  unfolding last_of
  last_of_sort zero k h = absurd (omega arith)
  last_of_sort (suc n) k h = go (of_sort t s e n) refl (last_of_sort n k) h
    where
      go : (b : Bool) → of_sort t s e n ≡ b → (last_of t s e n ≡ suc k → of_sort t s e k ≡ true) → cond b (suc n) (last_of t s e n) ≡ suc k → of_sort t s e k ≡ true
      go true p below h = let q : k ≡ n = omega (arith, h) in rw q p
      go false p below h = below h

  pub last_here : (n : ℕ) → of_sort t s e n ≡ true → last_of t s e (n + 1) ≡ n + 1
  unfolding last_of
  last_here n h = rw (add-one) (rw h)

  pub last_other : (n : ℕ) → of_sort t s e n ≡ false → last_of t s e (n + 1) ≡ last_of t s e n
  unfolding last_of
  last_other n h = rw (add-one) (rw h)

-- what a link says: the one before it in its chain, and the right event and the time of its relation
pub record Says (before : ℕ) (k : Relation) (link : ℕ) : Type 0 where
  pub next : link % 512 ≡ before
  pub right : link / 512 % 64 ≡ k.right
  pub time : link / 32768 % 1073741824 ≡ k.time

-- each part of a link stands in its own digits
says : (before : ℕ) (k : Relation) (link : ℕ) → before < 512 → k.right < 64 → k.time < 1073741824 → link ≡ link_of before k → Says before k link
says before k link few rights times made = record {
  next = omega arith;
  right = omega arith;
  time = omega arith;
}

-- bounded responses and conditions with a time are in chains
pub responses_chained : ltb (chain_of 3) 10 ≡ true
unfolding chain_of
responses_chained = refl

pub waits_chained : ltb (chain_of 1) 10 ≡ true
unfolding chain_of
waits_chained = refl

-- the link of a relation of such a sort: before it comes the last of its sort and event
pub chain_says : (t : Table) (s e : ℕ) (rows : List ℕ) (at : ℕ) (links : List ℕ) (k : ℕ) → GoodTable t → Own t t.count e rows at links → k < t.count
    → ltb (chain_of s) 10 ≡ true → of_sort t s e k ≡ true → Says (last_of t s e k) (relation_of t k) (get_or links k 0)
chain_says t s e rows at links k good own b chained of-sort =
    let p = both (eqb (sort_of (relation_of t k)) s) (eqb (relation_of t k).left e) of-sort in
    let sorted : sort_of (relation_of t k) ≡ s = eqb-true _ _ p.0 in
    says (last_of t s e k) (relation_of t k) (get_or links k 0) (omega (arith, last_le t s e k, good.few_relations))
    (right_small t good k b) (time_small t good k b)
    (rw sorted at (own.link k b (eqb-true _ _ p.1) (rw sorted chained)))

-- no relation yet, in words that are all 0
pub own_none : (t : Table) (e at n : ℕ) (links : List ℕ) → at + 10 ≤ n → Own t 0 e (replicate n 0) at links
unfolding last_of
own_none t e at n links wide = record {
  row = λ s m x. ap (λ (w : ℕ). has w x) (get_or-replicate n (at + s) 0 0 (omega arith)) ∙ has_zero x ∙ sym (some_none (sorted t s e x));
  responses = get_or-replicate n (at + 8) 0 0 (omega arith);
  waits = get_or-replicate n (at + 9) 0 0 (omega arith);
  link = λ k b. absurd (omega arith);
}

-- one relation more
module _ (t : Table) (i e : ℕ) (rows : List ℕ) (at : ℕ) (links : List ℕ) (old : Own t i e rows at links) where
  -- of another event: the words of e stay
  pub own_kept : ((relation_of t i).left ≡ e → ⊥) → (rows_after links-after : List ℕ) → ((p : ℕ) → p < 10 → get_or rows_after (at + p) 0 ≡ get_or rows (at + p) 0)
      → ((k : ℕ) → k < i → get_or links-after k 0 ≡ get_or links k 0) → Own t (i + 1) e rows_after at links-after
  own_kept other rows_after links-after rows_kept links-kept = record {
    row = λ s m x.
        ap (λ (w : ℕ). has w x) (rows_kept s (omega arith))
        ∙ has_passed (sorted t s e x) i (get_or rows (at + s) 0) x (old.row s m x) (passed s x);
    responses = rows_kept 8 (omega arith) ∙ old.responses ∙ sym (last_other t 3 e i (none 3));
    waits = rows_kept 9 (omega arith) ∙ old.waits ∙ sym (last_other t 1 e i (none 1));
    link = λ k b own chained. go k b own chained (ℕ_discrete k i);
  }
    where
      none : (s : ℕ) → of_sort t s e i ≡ false
      none s = rw (ne_eqb _ e other) (and_false (eqb (sort_of (relation_of t i)) s))

      passed : (s x : ℕ) → sorted t s e x i ≡ false
      passed s x = rw (ne_eqb _ e other) (and_false (eqb (sort_of (relation_of t i)) s))

      go : (k : ℕ) → k < i + 1 → (relation_of t k).left ≡ e → is_chained (relation_of t k) ≡ true → Dec (k ≡ i)
          → get_or links-after k 0 ≡ link_of (last_of t (sort_of (relation_of t k)) e k) (relation_of t k)
      go k b own chained (yes p) = absurd (other (rw p at own))
      go k b own chained (no n) = links-kept k (omega arith) ∙ old.link k (omega arith) own chained

  -- the beginning of a chain
  begins : (s : ℕ) → chain_of s < 10 → get_or rows (at + chain_of s) 0 ≡ last_of t s e i
  begins s few = go (chain_cases s few)
    where
      go : Chained s (chain_of s) → get_or rows (at + chain_of s) 0 ≡ last_of t s e i
      go (inl p) = rw (p.1, p.0) old.responses
      go (inr p) = rw (p.1, p.0) old.waits

  -- e's own: it is noted
  module _ (own : (relation_of t i).left ≡ e) (wide : at + 10 ≤ length rows) (few : i < 256) (long : i < length links) where
    abbrev k : Relation
    k = relation_of t i

    abbrev noted : List ℕ
    noted = rows_noted rows at i k

    chain_noted : (s : ℕ) → chain_of s < 10 → Dec (s ≡ sort_of k) → get_or noted (at + chain_of s) 0 ≡ last_of t s e (i + 1)
    chain_noted s small (yes p) =
        rw p (noted_chain rows at i k wide (rw p at small) ∙ sym (last_here t (sort_of k) e i (join (eq-eqb (sort_of k) (sort_of k) refl) (eq-eqb _ e own))))
    chain_noted s small (no n) =
        noted_other rows at i k (at + chain_of s) (λ h. absurd (omega (arith, chain_after s small, sort_small k)))
        (λ chained h. n (chain_same s (sort_of k) small (omega arith)))
        ∙ begins s small ∙ sym (last_other t s e i (rw (ne_eqb (sort_of k) s (λ h. n (sym h)))))

    row_noted : (s : ℕ) → s < 8 → (x : ℕ) → Dec (s ≡ sort_of k) → has (get_or noted (at + s) 0) x ≡ some (i + 1) (sorted t s e x)
    row_noted s m x (yes p) =
        rw p
        (ap (λ (w : ℕ). has w x) (noted_sort rows at i k wide)
        ∙ has_taken (sorted t (sort_of k) e x) i k.right (get_or rows (at + sort_of k) 0) x (old.row (sort_of k) (sort_small k) x)
        (rw (eq-eqb (sort_of k) (sort_of k) refl, eq-eqb _ e own)))
    row_noted s m x (no n) =
        ap (λ (w : ℕ). has w x) (noted_other rows at i k (at + s) (λ h. n (omega arith)) (λ chained h. absurd (omega (arith, chain_after (sort_of k) chained))))
        ∙ has_passed (sorted t s e x) i (get_or rows (at + s) 0) x (old.row s m x) (rw (ne_eqb (sort_of k) s (λ h. n (sym h))))

    link_noted : is_chained k ≡ true → get_or (links_noted links rows at i k) i 0 ≡ link_of (last_of t (sort_of k) e i) k
    link_noted chained =
        let before : get_or rows (at + chain_of (sort_of k)) 0 % 512 ≡ last_of t (sort_of k) e i =
        omega (arith, begins (sort_of k) (ltb-true _ _ chained), last_le t (sort_of k) e i) in
        linked_here links rows at i k long chained ∙ ap (λ (before : ℕ). link_of before k) before

    pub own_more : Own t (i + 1) e noted at (links_noted links rows at i k)
    unfolding chain_of
    own_more = record {
      row = λ s m x. row_noted s m x (ℕ_discrete s (sort_of k));
      responses = chain_noted 3 (omega arith) (ℕ_discrete 3 (sort_of k));
      waits = chain_noted 1 (omega arith) (ℕ_discrete 1 (sort_of k));
      link = λ j b mine chained. go j b mine chained (ℕ_discrete j i);
    }
      where
        go : (j : ℕ) → j < i + 1 → (relation_of t j).left ≡ e → is_chained (relation_of t j) ≡ true → Dec (j ≡ i)
            → get_or (links_noted links rows at i k) j 0 ≡ link_of (last_of t (sort_of (relation_of t j)) e j) (relation_of t j)
        go j b mine chained (yes p) = rw p (link_noted (rw p at chained))
        go j b mine chained (no n) = linked_other links rows at i k j n ∙ old.link j (omega arith) mine chained

-- the words of every event, each row from ten times the event's number on
pub record Owned (t : Table) (n : ℕ) (rows links : List ℕ) : Type 0 where
  pub rows_size : length rows ≡ 640
  pub links_size : length links ≡ 256
  pub own : (e : ℕ) → e < 64 → Own t n e rows (10 * e) links

pub owned_none : (t : Table) (links : List ℕ) → length links ≡ 256 → Owned t 0 (replicate 640 0) links
owned_none t links long = record { rows_size = refl; links_size = long; own = λ e b. own_none t e (10 * e) 640 links (omega arith) }

module _ (t : Table) (i : ℕ) (rows links : List ℕ) (old : Owned t i rows links) where
  pub owned_more : (relation_of t i).left < 64 → i < 256
      → Owned t (i + 1) (rows_noted rows (10 * (relation_of t i).left) i (relation_of t i))
      (links_noted links rows (10 * (relation_of t i).left) i (relation_of t i))
  owned_more small few = record {
    rows_size = length_noted rows (10 * k.left) i k ∙ old.rows_size;
    links_size = length_linked links rows (10 * k.left) i k ∙ old.links_size;
    own = λ e b. at e b (ℕ_discrete k.left e);
  }
    where
      k : Relation
      k = relation_of t i

      at : (e : ℕ) → e < 64 → Dec (k.left ≡ e) → Own t (i + 1) e (rows_noted rows (10 * k.left) i k) (10 * e) (links_noted links rows (10 * k.left) i k)
      at e b (yes p) =
          rw p (own_more t i e rows (10 * e) links (old.own e b) p (omega (arith, old.rows_size)) few (omega (arith, old.links_size)))
      at e b (no n) =
          own_kept t i e rows (10 * e) links (old.own e b) n (rows_noted rows (10 * k.left) i k) (links_noted links rows (10 * k.left) i k)
          (λ p m. noted_other rows (10 * k.left) i k (10 * e + p) (λ h. n (omega (arith, sort_small k))) (λ chained h. n (omega arith)))
          (λ j m. linked_other links rows (10 * k.left) i k j (λ h. absurd (omega arith)))

  pub owned_derived : Derived t i rows
  owned_derived = record { size = old.rows_size; row = λ e b. (old.own e b).row }

  pub owned_linked : ((k : ℕ) → k < i → (relation_of t k).left < 64) → Linked t i rows links
  owned_linked lefts = record {
    size = old.links_size;
    responses = λ e b. (old.own e b).responses;
    waits = λ e b. (old.own e b).waits;
    link = λ k b. (old.own (relation_of t k).left (lefts k b)).link k b refl;
  }

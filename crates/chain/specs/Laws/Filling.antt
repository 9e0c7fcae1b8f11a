-- The pass that makes the visits, from the last relation to the first. Assumes nothing.
use Rattle.std.specs.Prelude.{◌≡◌, Bool, true, false, List, ◌⊎◌, ℕ, Option, Some, None, suc, ◌-◌, ◌<◌, ◌≤◌, eqb, ltb, length, get_or, set, replicate}
use Rattle.std.proofs.Common.{sym, ◌∙◌, inl, inr, arith, length-set, get_or-set_same, get_or-set_other}
use Rattle.std.proofs.Math.Path.{ap, subst}
use Rattle.std.proofs.Math.Logic.{⊎_elim}
use Rattle.std.proofs.Math.ListN.{get_or-eq_default}
use Rattle.std.proofs.lemmas.List.{length-replicate, get_or-replicate}
use borrow.Author.Tests.{eqb-true, eq-eqb, ne_eqb, ltb-true, ltb-false}
use Rattle.rules.specs.declared.Table.{Table}
use Rattle.rules.specs.declared.Marking.{Marking}
use Rattle.rules.specs.Holds.{relation_of, record_of}
use Rattle.rules.specs.Enabled.{stops, blocks}
use Rattle.rules.specs.Shapes.Good.{GoodTable}
use Rattle.rules.proofs.Laws.Tests.{clash, decide, both, join, and_false}
use Rattle.chain.specs.declared.stops.Stop.{Stop}
use Rattle.chain.specs.Stops.{no_stop, stop_of, Safe}
use Rattle.chain.specs.Visits.{Found, First, first_of, VisitsFrom}

-- what the pass has made when the relations from i on are told
pub record Filled (t : Table) (m : Marking) (i : ℕ) (firsts : List (Option ℕ)) (stops : List Stop) : Type 0 where
  pub within : i ≤ t.count
  pub wide : length firsts ≡ 64
  pub long : length stops ≡ 256
  pub safe : Safe stops
  pub from : VisitsFrom t m i firsts stops

same_or_not : (a b : ℕ) → (a ≡ b) ⊎ (a ≡ b → ⊥)
same_or_not a b = ⊎_elim (λ p. inl (eqb-true a b p)) (λ p. inr (λ z. clash (eq-eqb a b z) p)) (decide (eqb a b))

past : {j k : ℕ} → j ≤ k → (k ≡ j → ⊥) → suc j ≤ k
past {j} {k} le n = ⊎_elim (λ p. ltb-true j k p) (λ p. absurd (n (omega (arith, le, ltb-false j k p)))) (decide (ltb j k))

-- every place of a list of equal ones is that one, if it is the one that stands for a place that is not there
all_same : {A : Type 0} (a : A) (n k : ℕ) → get_or (replicate n a) k a ≡ a
all_same a n k =
    ⊎_elim
    (λ p. get_or-replicate n k a a (ltb-true k n p))
    (λ p. get_or-eq_default (replicate n a) a (omega (arith, ltb-false k n p, length-replicate n a)))
    (decide (ltb k n))

-- before the first step: no relation is told of
pub starts : (t : Table) (m : Marking) → Filled t m t.count (replicate 64 None) (replicate 256 no_stop)
starts t m = record {
  within = omega arith;
  wide = length-replicate {A = Option ℕ} 64 None;
  long = length-replicate {A = Stop} 256 no_stop;
  safe = record {
    rises = λ k next is. absurd (none_some (sym (ap (λ (s : Stop). s.next) (all_same no_stop 256 k)) ∙ is));
    events = λ k. rw (all_same no_stop 256 k) (omega arith);
  };
  from = record {
    firsts_told = λ e b. subst (First (blocks t m e) t.count t.count) (sym (all_same None 64 e)) (λ j from to. absurd (omega (arith, from, to)));
    nexts_told = λ e k b from to. absurd (omega (arith, from, to));
    rights_told = λ k from to. absurd (omega (arith, from, to));
  };
}
  where
    none_some : {next : ℕ} → None ≡ Some next → ⊥
    none_some e = cc

-- the first one is below n, and f holds there
pub next_told : (f : ℕ → Bool) (n from : ℕ) (next : Option ℕ) → First f n from next → (k : ℕ) → next ≡ Some k → (k < n) × (f k ≡ true)
next_told f n from next first k is = let found : Found f n from k = subst (First f n from) is first in (found.within, found.here)

-- what f does not hold at may be left out
wider : (f : ℕ → Bool) (n j : ℕ) (found : Option ℕ) → f j ≡ false → First f n (suc j) found → First f n j found
wider f n j None free first = λ i le b. ⊎_elim (λ (z : i ≡ j). ap f z ∙ free) (λ (o : i ≡ j → ⊥). first i (past le o) b) (same_or_not i j)
wider f n j (Some k) free first = record {
  on = omega (arith, first.on);
  within = first.within;
  here = first.here;
  before = λ i le b. ⊎_elim (λ (z : i ≡ j). ap f z ∙ free) (λ (o : i ≡ j → ⊥). first.before i (past le o) b) (same_or_not i j);
}

-- One relation more, number j, and the relation that follows it
module _ (t : Table) (m : Marking) (good : GoodTable t) (j : ℕ) (used : j < t.count) (firsts : List (Option ℕ)) (stops_before : List Stop)
    (before : Filled t m (suc j) firsts stops_before) where
  abbrev left : ℕ
  left = (relation_of t j).left

  abbrev right : ℕ
  right = (relation_of t j).right

  abbrev stopped : Bool
  stopped = stops (relation_of t j) (record_of m right)

  few : j < 256
  few = omega (arith, used, good.few_relations)

  left_few : left < 64
  left_few = omega (arith, (good.relations_good j used).left_exists, good.few_events)

  module _ (next : Option ℕ) where
    abbrev stop : Stop
    stop = record { right = right; next = next }

    abbrev told : List Stop
    told = set stops_before j stop

    own : stop_of told j ≡ stop
    own = get_or-set_same stops_before j stop no_stop (omega (arith, few, before.long))

    other : (k : ℕ) → (k ≡ j → ⊥) → stop_of told k ≡ stop_of stops_before k
    other k n = get_or-set_other stops_before j k stop no_stop n

    told_safe : ((k : ℕ) → next ≡ Some k → j < k) → Safe told
    told_safe rises = record {
      rises = λ k n is. ⊎_elim
          (λ (z : k ≡ j). let here : stop_of told k ≡ stop = ap (stop_of told) z ∙ own in
          omega (arith, z, rises n (sym (ap (λ (s : Stop). s.next) here) ∙ is)))
          (λ (o : k ≡ j → ⊥). before.safe.rises k n (sym (ap (λ (s : Stop). s.next) (other k o)) ∙ is))
          (same_or_not k j);
      events = λ k. ⊎_elim
          (λ (z : k ≡ j). subst (λ (s : Stop). s.right < 64) (sym (ap (stop_of told) z ∙ own))
          (omega (arith, (good.relations_good j used).right_exists, good.few_events)))
          (λ (o : k ≡ j → ⊥). subst (λ (s : Stop). s.right < 64) (sym (other k o)) (before.safe.events k))
          (same_or_not k j);
    }

    told_from : (firsts_now : List (Option ℕ)) → ((e : ℕ) → e < 64 → First (blocks t m e) t.count j (first_of firsts_now e))
        → ((e : ℕ) → e < 64 → blocks t m e j ≡ true → First (blocks t m e) t.count (suc j) next) → VisitsFrom t m j firsts_now told
    told_from firsts_now first follows = record {
      firsts_told = first;
      nexts_told = λ e k b le c is. ⊎_elim
          (λ (z : k ≡ j). subst (λ (n : ℕ). First (blocks t m e) t.count (suc n) (stop_of told n).next) (sym z)
          (subst (λ (s : Stop). First (blocks t m e) t.count (suc j) s.next) (sym own)
          (follows e b (ap (blocks t m e) (sym z) ∙ is))))
          (λ (o : k ≡ j → ⊥). subst (λ (s : Stop). First (blocks t m e) t.count (suc k) s.next) (sym (other k o))
          (before.from.nexts_told e k b (past le o) c is))
          (same_or_not k j);
      rights_told = λ k le c. ⊎_elim
          (λ (z : k ≡ j). ap (λ (n : ℕ). (stop_of told n).right) z ∙ ap (λ (s : Stop). s.right) own ∙ ap (λ (n : ℕ). (relation_of t n).right) (sym z))
          (λ (o : k ≡ j → ⊥). ap (λ (s : Stop). s.right) (other k o) ∙ before.from.rights_told k (past le o) c)
          (same_or_not k j);
    }

  -- it blocks nothing
  pub passed : stopped ≡ false → Filled t m j firsts (set stops_before j (record { right = right; next = None }))
  unfolding blocks
  passed free = record {
    within = omega (arith, used);
    wide = before.wide;
    long = length-set stops_before j (stop None) ∙ before.long;
    safe = told_safe None (λ k is. absurd (none_some is));
    from = told_from None firsts (λ e b. wider (blocks t m e) t.count j (first_of firsts e) (none e) (before.from.firsts_told e b))
        (λ e b is. absurd (clash is (none e)));
  }
    where
      none : (e : ℕ) → blocks t m e j ≡ false
      none e = rw free (and_false (eqb left e))

      none_some : {next : ℕ} → None ≡ Some next → ⊥
      none_some e = cc

  -- it blocks its left event: it comes before the one that was the first
  abbrev first_left : Option ℕ
  first_left = first_of firsts left

  pub blocked : stopped ≡ true → Filled t m j (set firsts left (Some j)) (set stops_before j (record { right = right; next = first_left }))
  unfolding blocks
  blocked is = record {
    within = omega (arith, used);
    wide = length-set firsts left (Some j) ∙ before.wide;
    long = length-set stops_before j (stop first_left) ∙ before.long;
    safe = told_safe first_left (λ k e. later k e);
    from = told_from first_left (set firsts left (Some j))
        (λ e b. ⊎_elim
        (λ (z : e ≡ left). subst (First (blocks t m e) t.count j)
        (sym (ap (first_of (set firsts left (Some j))) z ∙ get_or-set_same firsts left (Some j) None (omega (arith, left_few, before.wide))))
        (record { on = omega arith; within = used; here = own_block e (sym z); before = λ i le c. absurd (omega (arith, le, c)) }))
        (λ (n : e ≡ left → ⊥). subst (First (blocks t m e) t.count j) (sym (get_or-set_other firsts left e (Some j) None n))
        (wider (blocks t m e) t.count j (first_of firsts e) (other_block e n) (before.from.firsts_told e b)))
        (same_or_not e left))
        (λ e b here.
        let mine : left ≡ e = eqb-true left e (both (eqb left e) stopped here).0 in
        subst (λ (x : ℕ). First (blocks t m e) t.count (suc j) (first_of firsts x)) (sym mine) (before.from.firsts_told e b));
  }
    where
      later : (k : ℕ) → first_left ≡ Some k → j < k
      later k e =
          let found : Found (blocks t m left) t.count (suc j) k =
          subst (First (blocks t m left) t.count (suc j)) e (before.from.firsts_told left left_few) in
          found.on

      own_block : (e : ℕ) → left ≡ e → blocks t m e j ≡ true
      own_block e z = join (eq-eqb left e z) is

      other_block : (e : ℕ) → (e ≡ left → ⊥) → blocks t m e j ≡ false
      other_block e n = rw (ne_eqb left e (λ z. n (sym z)))

-- one turn of the pass, at the relation before i: it blocks nothing, or its left event
module _ (t : Table) (m : Marking) (good : GoodTable t) (i : ℕ) (some : 0 < i) (firsts : List (Option ℕ)) (stops_before : List Stop)
    (filled : Filled t m i firsts stops_before) where
  abbrev last : ℕ
  last = i - 1

  used_last : last < t.count
  used_last = omega (arith, some, filled.within)

  before_last : Filled t m (suc last) firsts stops_before
  before_last = let is : i ≡ suc last = omega (arith, some) in subst (λ (n : ℕ). Filled t m n firsts stops_before) is filled

  abbrev last_stop : Option ℕ → Stop
  last_stop next = record { right = (relation_of t last).right; next = next }

  abbrev last_blocks : Bool
  last_blocks = stops (relation_of t last) (record_of m (relation_of t last).right)

  pub turn_passed : last_blocks ≡ false → Filled t m last firsts (set stops_before last (last_stop None))
  turn_passed free = passed t m good last used_last firsts stops_before before_last free

  pub turn_blocked : last_blocks ≡ true → Filled t m last (set firsts (relation_of t last).left (Some last))
      (set stops_before last (last_stop (first_of firsts (relation_of t last).left)))
  turn_blocked is = blocked t m good last used_last firsts stops_before before_last is

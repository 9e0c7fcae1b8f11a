-- The chain of an event is what is said of it. Assumes nothing.
use Rattle.std.specs.Prelude.{◌≡◌, Bool, not, ◌&&◌, cond, ◌⊎◌, eqb, ltb, length}
use Rattle.std.proofs.Math.Path.{refl, ap, subst}
use Rattle.std.proofs.Common.{◌∙◌, sym, inl, inr}
use Rattle.std.proofs.Math.Bool.{true, false}
use mathlib.Core.List.{List, [], ◌∷◌, ◌++◌}
use Rattle.std.proofs.Math.Logic.{⊎_elim}
use Prim.Native.Nat.{ℕ, zero, suc, ◌<◌, ◌≤◌, ◌/◌, ◌%◌}
use native.Mathlib.Omega.{arith}
use borrow.Author.Tests.{eqb-true, eq-eqb, lt-ltb, le-ltb, ltb-true}
use Rattle.rules.specs.declared.Table.{Table}
use Rattle.rules.specs.declared.Marking.{Marking}
use Rattle.rules.specs.HoldUpAnswer.{Enabled, EnabledUnless, Excluded, Blocked}
use Rattle.rules.specs.Counting.{lowest}
use Rattle.rules.specs.EventSet.{has, with_event, set_of}
use Rattle.rules.specs.Numbers.{hold_up_in_numbers}
use Rattle.rules.specs.Holds.{most_events, relation_of, record_of}
use Rattle.rules.specs.Judge.{judged, event_number}
use Rattle.rules.specs.Enabled.{blocks}
use Rattle.rules.specs.HoldUp.{hold_up_of, hold_up, would_block}
use Rattle.rules.specs.Chain.{Link, Visit, link, nothing, led_to, along, visit, chain, chain_number, place_of, listed, reached, link_at, Told}
use Rattle.rules.specs.Shapes.Good.{GoodTable}
use Rattle.rules.proofs.Laws.Tests.{clash, both, join, same_test}
use Rattle.rules.proofs.Laws.Counting.{many_le}
use Rattle.rules.proofs.Laws.EventSet.{has_zero, set_has, set_holds, set_lt_power}
use Rattle.rules.proofs.Laws.Widened.{fully_within, fully_contains, fully_closed}
use Rattle.rules.proofs.Laws.Numbers.{both_done}
use Rattle.rules.proofs.Laws.Judge.{good}
use Rattle.rules.proofs.Laws.Granted.{event_exists}
use Rattle.rules.proofs.Laws.Links.{once, once_fits, once_apart}
use Rattle.rules.proofs.Laws.Visits.{Left, unopened, visited, reaches}
use Rattle.rules.proofs.Laws.Depths.{rooted, own_deep, shallow}

module _ (t : Table) (m : Marking) (good : GoodTable t) where
  abbrev left : ℕ → ℕ
  left k = (relation_of t k).left

  abbrev from : ℕ → ℕ
  from e = set_of t.events (λ x. eqb x e && (record_of m x).included)

  -- as many events as a table has at most are enough to go down to
  enough : unopened t 0 ≤ most_events
  enough = omega (arith, many_le (λ x. not (has 0 x)) t.events, good.few_events)

  module _ (e : ℕ) (exists : e < t.events) where
    abbrev end : Visit
    end = visit t m most_events 0 e 0

    end_left : Left t m good 0 end
    end_left = (visited t m good most_events 0 e 0 exists enough).0

    end_opens : (record_of m e).included ≡ true → has end.opened e ≡ true
    end_opens = (visited t m good most_events 0 e 0 exists enough).1

    -- what is opened at the end is what is reached
    opened_reached : (x : ℕ) → has end.opened x ≡ true → has (reached t m e) x ≡ true
    unfolding reached
    opened_reached = reaches t m good (λ x. has (reached t m e) x ≡ true)
        (λ k b h q. fully_closed t (λ k. blocks t m (left k) k) (from e) (set_lt_power _ t.events) k b (good.relations_good k b).right_exists h q)
        most_events 0 e 0 (λ x h. absurd (clash h (has_zero x)))
        (λ i. fully_contains t (λ k. blocks t m (left k) k) (from e) e exists (set_has _ t.events e exists ∙ join (eq-eqb e e refl) i))

    reached_opened : (x : ℕ) → has (reached t m e) x ≡ true → has end.opened x ≡ true
    unfolding reached
    reached_opened = fully_within t (λ k. blocks t m (left k) k) (λ x. has end.opened x ≡ true)
        (λ k b h q. (end_left.closed (left k) (has_zero (left k)) q k b h).1) (from e)
        (λ x h. let q = both (eqb x e) _ (set_holds _ t.events x h).1 in
        subst (λ y. has end.opened y ≡ true) (sym (eqb-true x e q.0))
        (end_opens (subst (λ y. (record_of m y).included ≡ true) (eqb-true x e q.0) q.1)))

    chain_holds : (k : ℕ) → listed k (chain t m e) ≡ (ltb k t.count && has (reached t m e) (left k) && blocks t m (left k) k)
    unfolding chain
    chain_holds k = same_test _ _
        (λ h. let q = end_left.sound k h in join (join (lt-ltb k t.count q.0) (opened_reached _ q.2)) q.3)
        (λ h.
        let q = both _ (blocks t m (left k) k) h in
        let r = both (ltb k t.count) _ q.0 in
        (end_left.closed (left k) (has_zero (left k)) (reached_opened _ r.1) k (ltb-true k t.count r.0) q.1).0)

    chain_once : once (chain t m e) ≡ true
    unfolding chain
    chain_once = end_left.single

    pub chain_fits : length (chain t m e) ≤ t.count
    unfolding chain
    chain_fits = once_fits end.links t.count end_left.single (λ k h. (end_left.sound k h).0)

-- The first link is of the lowest relation that blocks: none, and no link; or the lowest one first
abbrev Begins : (ℕ → Bool) → ℕ → ℕ → List Link → Type 0
Begins f d i links = ((lowest i f ≡ i) × (links ≡ [])) ⊎ ((lowest i f < i) × (rest : List Link) × (links ≡ (link (lowest i f) d ∷ rest)))

along_begins : (f : ℕ → Bool) (g : ℕ → ℕ → Visit) (d n o : ℕ) → Begins f d n (along n (λ k p. cond (f k) (led_to k d (g k p)) (nothing p)) o).links
unfolding along lowest
along_begins f g d zero o = inl (refl, refl)
along_begins f g d (suc n) o = go (f n) refl (along_begins f g d n o)
  where
    step : ℕ → ℕ → Visit
    step k p = cond (f k) (led_to k d (g k p)) (nothing p)

    go : (holds : Bool) → f n ≡ holds → Begins f d n (along n step o).links → Begins f d (suc n) (along (suc n) step o).links
    go holds is (inr p) =
        inr (rw (lt-ltb (lowest n f) n p.0) (
          omega (arith, p.0),
          p.1 ++ (step n (along n step o).opened).links,
          ap (λ (l : List Link). l ++ (step n (along n step o).opened).links) p.2,
        ))
    go true is (inl p) =
        inr (rw (p.0, le-ltb n n (omega arith), is) (
          omega arith,
          (g n (along n step o).opened).links,
          rw p.1,
        ))
    go false is (inl p) = inl (rw (p.0, le-ltb n n (omega arith), is) (refl, rw p.1))

module _ (t : Table) (m : Marking) (e : ℕ) where
  chain_begins : (record_of m e).included ≡ true → Begins (blocks t m e) 0 t.count (chain t m e)
  unfolding chain visit
  chain_begins there = go most_events (omega arith)
    where
      go : (n : ℕ) → 0 < n → Begins (blocks t m e) 0 t.count (visit t m n 0 e 0).links
      go zero some = absurd (omega (arith, some))
      go (suc f) some =
          rw (has_zero e, there)
          (along_begins (blocks t m e) (λ k p. visit t m f 1 (relation_of t k).right p) 0 t.count (with_event 0 e))

  pub chain_excluded : (record_of m e).included ≡ false → chain t m e ≡ []
  unfolding chain visit
  chain_excluded away = go most_events
    where
      go : (n : ℕ) → (visit t m n 0 e 0).links ≡ []
      go zero = refl
      go (suc f) = rw (has_zero e, away)

  -- the hold-up, by the tests that it makes
  tests : (included blocked would : Bool) (first unless k : ℕ)
      → cond (not included) Excluded (cond blocked (Blocked first) (cond would (EnabledUnless unless) Enabled)) ≡ Blocked k
      → (included ≡ true) × (blocked ≡ true) × (first ≡ k)
  tests true true would first unless k is = (refl, refl, ap (λ a. (hold_up_in_numbers a).relation) is)
  tests true false true first unless k is = absurd (omega (arith, ap (λ a. (hold_up_in_numbers a).kind) is))
  tests true false false first unless k is = absurd (omega (arith, ap (λ a. (hold_up_in_numbers a).kind) is))
  tests false blocked would first unless k is = absurd (omega (arith, ap (λ a. (hold_up_in_numbers a).kind) is))

  -- blocked: the hold-up's relation comes first
  first_named : (k : ℕ) → hold_up_of t m e ≡ Blocked k → (0 < length (chain t m e)) × (link_at (chain t m e) 0 ≡ link k 0)
  unfolding hold_up_of
  first_named k is =
      let q =
      tests (record_of m e).included (ltb (lowest t.count (blocks t m e)) t.count) (ltb (lowest t.count (would_block t m e)) t.count) _ _ k is in
      ⊎_elim
      (λ none. absurd (omega (arith, ltb-true (lowest t.count (blocks t m e)) t.count q.1, none.0)))
      (λ y. let starts : chain t m e ≡ (link k 0 ∷ y.1) = y.2 ∙ ap (λ (n : ℕ). link n 0 ∷ y.1) q.2 in rw starts (omega arith, refl))
      (chain_begins q.0)

  -- not blocked: nothing is listed
  none_named : ((k : ℕ) → hold_up_of t m e ≡ Blocked k → ⊥) → chain t m e ≡ []
  unfolding hold_up_of
  none_named never = go (record_of m e).included refl
    where
      go : (included : Bool) → (record_of m e).included ≡ included → chain t m e ≡ []
      go false away = chain_excluded away
      go true there =
          ⊎_elim
          (λ none. none.1)
          (λ y. absurd (never (lowest t.count (blocks t m e)) (rw (there, lt-ltb (lowest t.count (blocks t m e)) t.count y.0))))
          (chain_begins there)

-- a granted call's list: each sentence of it
pub chain_told : (t : Table) (m : Marking) (e room : ℕ) → chain_number t m e room ≡ 0 → Told t m e (chain t m e)
unfolding chain_number hold_up chain
chain_told t m e room granted =
    let first = both_done (judged t m) _ granted in
    let second = both_done (event_number t e) _ first.1 in
    let table = (good t m first.0).table_good in
    let exists : e < t.events = event_exists t e second.0 in
    let deep = own_deep t m table most_events 0 e 0 exists (enough t m table) in
    let root = rooted t m table most_events 0 e 0 in
    record {
      holds = chain_holds t m table e exists;
      once = once_apart (chain t m e) (chain_once t m table e exists);
      fits = omega (arith, chain_fits t m table e exists, table.few_relations);
      first = λ k is. first_named t m e k (rw (first.0, second.0) at is);
      none = λ never. none_named t m e (λ k is. never k (rw (first.0, second.0) is));
      own_depth = deep;
      depth_own = λ i b z. ⊎_elim (λ own. own.1) (λ y. absurd (omega (arith, y.above, z))) (root i b);
      shallow = shallow t m table most_events 0 e 0;
      led = λ i b other. ⊎_elim (λ own. absurd (other own.1)) (λ y. y) (root i b);
    }

-- a place tells both its numbers
pub place_told : (l : Link) → l.depth < most_events → (place_of l / 256 ≡ l.relation) × (place_of l % 256 ≡ l.depth)
place_told l few = (omega (arith, few), omega (arith, few))

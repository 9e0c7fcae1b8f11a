-- Words lead where a table's relations do, a word for each event or its row: from an event to its inhibitors, from a set to all that it reaches,
-- so to the closure, the needed set and what an event waits for, and to the events that are ready. Assumes nothing.
use Rattle.std.specs.Prelude.{◌≡◌, Bool, ◌&&◌, ◌||◌, List, ◌⊎◌, ℕ, zero, suc, ◌<◌, ◌≤◌, ◌+◌, ◌^◌, ltb, length, set, replicate}
use Rattle.std.proofs.Math.Path.{refl, ap}
use Rattle.std.proofs.Common.{◌∙◌, ap₂, sym, subst, ⊎_elim, inl, inr, arith, eqb-true, eq-eqb, ne_eqb, lt-ltb, ltb-true, ltb-false}
use Rattle.std.proofs.Common.{get_or-set_same, get_or-set_other}
use Rattle.std.proofs.Math.Decide.{ℕ_discrete}
use Rattle.std.proofs.Math.ListN.{length-set}
use Rattle.std.proofs.lemmas.List.{get_or-replicate}
use Rattle.std.proofs.Math.Bool.{true, false, not, and-true, and-or_distrib_right}
use Rattle.std.proofs.Math.Dec.{eqb}
use Rattle.std.specs.Int.Bits.{bit_or, bit_and}
use Rattle.rules.specs.declared.Relation.{Relation}
use Rattle.rules.specs.declared.Table.{Table}
use Rattle.rules.specs.declared.Marking.{Marking}
use Rattle.rules.specs.Counting.{some}
use Rattle.rules.specs.EventSet.{has, set_of}
use Rattle.rules.specs.Holds.{is_condition, is_milestone, relation_of, record_of}
use Rattle.rules.specs.Effect.{leads}
use Rattle.rules.specs.Time.{due_set}
use Rattle.rules.specs.Closure.{busy, inhibits, followed, follows, widened_fully, closure}
use Rattle.rules.specs.Check.{awaited}
use Rattle.rules.specs.Guard.{holds_back, needed, ready}
use Rattle.rules.proofs.Laws.Tests.{decide, clash, both, join, same_test, and_false}
use Rattle.rules.proofs.Laws.Counting.{some_where, some_at, some_same, some_false}
use Rattle.rules.proofs.Laws.EventSet.{has_zero, set_has, set_holds, set_lt_power}
use Rattle.rules.proofs.Laws.Time.{set_empty}
use Rattle.rules.proofs.Laws.Bitwise.{has_or, has_and}
use Rattle.rules.proofs.Laws.Turns.{same_word}
use Rattle.rules.specs.Shapes.Good.{GoodTable}
use Rattle.rules.proofs.Laws.Widened.{has_below, fully_within, fully_contains, fully_closed}
use Rattle.rules.proofs.Laws.Closure.{follows_where}
use Rattle.rules.proofs.Laws.Needed.{due_fits}
use Rattle.acts.specs.Derived.{row_of, Derived, every_event}
use Rattle.duties.specs.Inhibition.{inhibitors_in, followed_in, word_of, Followed, Reached, ready_in}
use Rattle.acts.specs.Laws.Members.{set_by_test, has_every}
use Rattle.duties.specs.Laws.Sets.{is_missing, is_waiting}
use Rattle.acts.specs.Laws.Sorted.{some_either, conditions_are, milestones_are}
use Rattle.acts.specs.Laws.Derived.{left_small, right_small}

-- a relation leads on to its right event: a condition to one of the first set, a milestone to one of the second
abbrev pub leads_on : ℕ → ℕ → Relation → Bool
leads_on conditions milestones k = is_condition k && has conditions k.right || is_milestone k && has milestones k.right

-- relation k leads on from e to x
abbrev leads_from : Table → ℕ → ℕ → ℕ → ℕ → ℕ → Bool
leads_from t conditions milestones e x k = leads_on conditions milestones (relation_of t k) && leads (relation_of t k) e x

-- some place, and a test besides
pub some_besides : (f : ℕ → Bool) (b : Bool) (n : ℕ) → (some n f && b) ≡ some n (λ k. f k && b)
unfolding some
some_besides f b zero = refl
some_besides f b (suc n) = go (some n f) (f n) b (some_besides f b n)
  where
    go : (a c d : Bool) {e : Bool} → (a && d) ≡ e → ((a || c) && d) ≡ (e || (c && d))
    go true c true h = rw (sym h)
    go true true false h = rw (sym h)
    go true false false h = rw (sym h)
    go false c d h = rw (sym h)

-- What a set reaches by words that have the right events of each event's relations among those to follow.
module _ (t : Table) (good : GoodTable t) where
  module _ (word : ℕ → ℕ) (along : ℕ → Bool)
      (leading : (e : ℕ) → e < 64 → (x : ℕ) → has (word e) x ≡ some t.count (λ k. along k && leads (relation_of t k) e x))
    where
      word_where : (e x : ℕ) → e < 64 → has (word e) x ≡ true
          → (k : ℕ) × (k < t.count) × (along k ≡ true) × ((relation_of t k).left ≡ e) × ((relation_of t k).right ≡ x)
      word_where e x b h =
          let k = some_where (λ k. along k && leads (relation_of t k) e x) t.count (sym (leading e b x) ∙ h) in
          let p = both (along k.0) (leads (relation_of t k.0) e x) k.2 in
          let q = both (eqb (relation_of t k.0).left e) (eqb (relation_of t k.0).right x) p.1 in
          (k.0, k.1, p.0, eqb-true _ _ q.0, eqb-true _ _ q.1)

      pub word_at : (k : ℕ) → k < t.count → along k ≡ true → has (word (relation_of t k).left) (relation_of t k).right ≡ true
      word_at k b h =
          let e = (relation_of t k).left in
          let x = (relation_of t k).right in
          leading e (left_small t good k b) x
          ∙ some_at (λ k. along k && leads (relation_of t k) e x) t.count k b (join h (join (eq-eqb e e refl) (eq-eqb x x refl)))

      pub reached_fully : (set r : ℕ) → set < 2 ^ t.events → Reached word set r → r ≡ widened_fully t along set
      reached_fully set r fits reached =
          same_word r (widened_fully t along set)
          (λ x. same_test (has r x) (has (widened_fully t along set) x)
          (reached.within (has (widened_fully t along set)) (λ y h. fully_contains t along set y (has_below t.events set y fits h) h) next x)
          (fully_within t along (λ y. has r y ≡ true)
          (λ k b l h. reached.on (relation_of t k).left (relation_of t k).right (left_small t good k b) h (word_at k b l)) set reached.starts x))
        where
          next : (e x : ℕ) → e < 64 → has (widened_fully t along set) e ≡ true → has (word e) x ≡ true → has (widened_fully t along set) x ≡ true
          next e x b h i =
              let k = word_where e x b i in
              subst (λ (y : ℕ). has (widened_fully t along set) y ≡ true) k.4
              (fully_closed t along set fits k.0 k.1 (good.relations_good k.0 k.1).right_exists k.2
              (ap (has (widened_fully t along set)) k.3 ∙ h))

  -- The words of what is followed.
  module _ (words : List ℕ) (made : Followed t t.count words) where
    pub closure_reached : (m : Marking) (start r : ℕ) → start ≡ set_of t.events (busy t m) → Reached (word_of words) start r → r ≡ closure t m
    unfolding closure
    closure_reached m start r q reached =
        reached_fully (word_of words) (λ k. followed (relation_of t k)) made.word start r (rw q (set_lt_power (busy t m) t.events)) reached
        ∙ ap (widened_fully t (λ k. followed (relation_of t k))) q

    word_follows : (e : ℕ) → e < 64 → (x : ℕ) → has (word_of words e) x ≡ follows t e x
    unfolding follows
    word_follows e b x = made.word e b x

    follows_exists : (e x : ℕ) → follows t e x ≡ true → x < t.events
    follows_exists e x h = let k = follows_where t e x h in subst (λ (y : ℕ). y < t.events) k.4 (good.relations_good k.0 k.1).right_exists

    pub awaited_reached : (e r : ℕ) → e < 64 → Reached (word_of words) (word_of words e) r → r ≡ awaited t e
    unfolding awaited
    awaited_reached e r b reached =
        let first : word_of words e ≡ set_of t.events (follows t e) =
        set_by_test t.events (word_of words e) (follows t e)
        (λ x h. follows_exists e x (sym (word_follows e b x) ∙ h)) (λ x l. word_follows e b x) in
        reached_fully (word_of words) (λ k. followed (relation_of t k)) made.word _ r (rw first (set_lt_power (follows t e) t.events)) reached
        ∙ ap (widened_fully t (λ k. followed (relation_of t k))) first

    -- what holds of the events in an event's word, and of those in an event's word whenever of the event, holds of all that it waits for
    pub awaited_within : (P : ℕ → Type 0) → ((e x : ℕ) → e < 64 → P e → has (word_of words e) x ≡ true → P x)
        → (e : ℕ) → e < 64 → ((x : ℕ) → has (word_of words e) x ≡ true → P x) → (x : ℕ) → has (awaited t e) x ≡ true → P x
    unfolding awaited
    awaited_within P on e b first =
        fully_within t (λ k. followed (relation_of t k)) P
        (λ k l f h. on (relation_of t k).left (relation_of t k).right (left_small t good k l) h
        (word_at (word_of words) (λ i. followed (relation_of t i)) made.word k l f))
        (set_of t.events (follows t e)) (λ x h. first x (word_follows e b x ∙ (set_holds (follows t e) t.events x h).1))

-- the first e words are made of rows, the others are 0
pub record Made (rows : List ℕ) (e : ℕ) (words : List ℕ) : Type 0 where
  pub long : length words ≡ 64
  pub made : (x : ℕ) → x < e → word_of words x ≡ followed_in rows every_event every_event x
  pub others : (x : ℕ) → e ≤ x → x < 64 → word_of words x ≡ 0

pub made_none : (rows : List ℕ) → Made rows 0 (replicate 64 0)
made_none rows = record {
  long = refl;
  made = λ x b. absurd (omega (arith, b));
  others = λ x l b. get_or-replicate 64 x 0 0 b;
}

pub made_more : {rows words : List ℕ} {e : ℕ} → e < 64 → Made rows e words
    → Made rows (e + 1) (set words e (followed_in rows every_event every_event e))
made_more {rows} {words} {e} few old = record {
  long = length-set words e _ ∙ old.long;
  made = λ x b. at x b (ℕ_discrete x e);
  others = λ x l b. get_or-set_other words e x _ 0 (λ q. absurd (omega (arith, q, l))) ∙ old.others x (omega (arith, l)) b;
}
  where
    at : (x : ℕ) → x < e + 1 → Dec (x ≡ e)
        → word_of (set words e (followed_in rows every_event every_event e)) x ≡ followed_in rows every_event every_event x
    at x b (yes q) = rw q (get_or-set_same words e _ 0 (omega (arith, old.long, few)))
    at x b (no n) = get_or-set_other words e x _ 0 n ∙ old.made x (omega (arith, b, n))

-- The rows of a table lead where its relations do.
module _ (t : Table) (good : GoodTable t) (rows : List ℕ) (made : Derived t t.count rows) where
  -- the relations of an event e that lead to x
  module _ (e : ℕ) (small : e < 64) (x : ℕ) where
    waits_for_lem : has (bit_or (row_of rows e 0) (row_of rows e 1)) x ≡ some t.count (λ k. is_condition (relation_of t k) && leads (relation_of t k) e x)
    waits_for_lem =
        has_or (row_of rows e 0) (row_of rows e 1) x ∙ ap₂ ◌||◌ (made.row e small 0 (omega arith) x) (made.row e small 1 (omega arith) x)
        ∙ conditions_are t e x good

    awaits : has (row_of rows e 2) x ≡ some t.count (λ k. is_milestone (relation_of t k) && leads (relation_of t k) e x)
    awaits = made.row e small 2 (omega arith) x ∙ milestones_are t e x good

    -- all its inhibitors
    pub inhibitors_are : has (inhibitors_in rows e) x ≡ some t.count (λ k. inhibits (relation_of t k) && leads (relation_of t k) e x)
    inhibitors_are =
        has_or (bit_or (row_of rows e 0) (row_of rows e 1)) (row_of rows e 2) x ∙ ap₂ ◌||◌ waits_for_lem awaits ∙ some_either _ _ t.count
        ∙ some_same _ _ t.count
        (λ k b. sym (and-or_distrib_right (is_condition (relation_of t k)) (is_milestone (relation_of t k)) (leads (relation_of t k) e x)))

    -- those that are followed, by the relations
    has_followed : (conditions milestones : ℕ)
        → has (followed_in rows conditions milestones e) x ≡ some t.count (leads_from t conditions milestones e x)
    has_followed conditions milestones =
        has_or (bit_and (bit_or (row_of rows e 0) (row_of rows e 1)) conditions) (bit_and (row_of rows e 2) milestones) x
        ∙ ap₂ ◌||◌
        (has_and (bit_or (row_of rows e 0) (row_of rows e 1)) conditions x ∙ ap (λ (a : Bool). a && has conditions x) waits_for_lem
        ∙ some_besides _ (has conditions x) t.count)
        (has_and (row_of rows e 2) milestones x ∙ ap (λ (a : Bool). a && has milestones x) awaits ∙ some_besides _ (has milestones x) t.count)
        ∙ some_either _ _ t.count
        ∙ some_same _ _ t.count (λ k b. one (relation_of t k) (decide (leads (relation_of t k) e x)))
      where
        one : (k : Relation) → (leads k e x ≡ true) ⊎ (leads k e x ≡ false)
            → (((is_condition k && leads k e x) && has conditions x) || ((is_milestone k && leads k e x) && has milestones x))
            ≡ (leads_on conditions milestones k && leads k e x)
        one k (inl l) =
            let q = eqb-true k.right x (both (eqb k.left e) (eqb k.right x) l).1 in
            rw (l, and-true (is_condition k), and-true (is_milestone k), and-true (leads_on conditions milestones k), q)
        one k (inr l) = rw (l, and_false (is_condition k), and_false (is_milestone k), and_false (leads_on conditions milestones k))

    -- where the relations to follow are those that lead on
    pub followed_along : (conditions milestones : ℕ) (along : ℕ → Bool) → ((k : ℕ) → k < t.count → along k ≡ leads_on conditions milestones (relation_of t k))
        → has (followed_in rows conditions milestones e) x ≡ some t.count (λ k. along k && leads (relation_of t k) e x)
    followed_along conditions milestones along same =
        has_followed conditions milestones
        ∙ some_same _ _ t.count (λ k b. ap (λ (a : Bool). a && leads (relation_of t k) e x) (sym (same k b)))

  -- With no set to be in, all that are followed.
  follows_all : (k : ℕ) → k < t.count → followed (relation_of t k) ≡ leads_on every_event every_event (relation_of t k)
  follows_all k b = simp (has_every (relation_of t k).right, lt-ltb (relation_of t k).right 64 (right_small t good k b), and-true)

  followed_all : (e : ℕ) → e < 64 → (x : ℕ)
      → has (followed_in rows every_event every_event e) x ≡ some t.count (λ k. followed (relation_of t k) && leads (relation_of t k) e x)
  followed_all e b x = followed_along e b x every_event every_event (λ k. followed (relation_of t k)) follows_all

  followed_follow : (e : ℕ) → e < 64 → (x : ℕ) → has (followed_in rows every_event every_event e) x ≡ follows t e x
  unfolding follows
  followed_follow e b x = followed_all e b x

  -- the words of its events, each made of a row
  pub words_followed : (words : List ℕ) → Made rows t.events words → Followed t t.count words
  words_followed words made_of_rows = record {
    size = made_of_rows.long;
    word = λ e b x. ⊎_elim (there e b x) (past e b x) (decide (ltb e t.events));
  }
    where
      there : (e : ℕ) → e < 64 → (x : ℕ) → ltb e t.events ≡ true
          → has (word_of words e) x ≡ some t.count (λ k. followed (relation_of t k) && leads (relation_of t k) e x)
      there e b x l = ap (λ (w : ℕ). has w x) (made_of_rows.made e (ltb-true e t.events l)) ∙ followed_all e b x

      past : (e : ℕ) → e < 64 → (x : ℕ) → ltb e t.events ≡ false
          → has (word_of words e) x ≡ some t.count (λ k. followed (relation_of t k) && leads (relation_of t k) e x)
      past e b x l =
          ap (λ (w : ℕ). has w x) (made_of_rows.others e (ltb-false e t.events l) b) ∙ has_zero x
          ∙ sym (some_false (λ k. followed (relation_of t k) && leads (relation_of t k) e x) t.count (λ k c. rw
          (ne_eqb (relation_of t k).left e (λ q. absurd (omega (arith, (good.relations_good k c).left_exists, q, ltb-false e t.events l))))
          (and_false (followed (relation_of t k)))))

  -- The inhibitors that hold back: a condition's where it is included and never happened, a milestone's where it is included and pending.
  module _ (m : Marking) (sized : m.events ≡ t.events) where
    module _ (conditions milestones : ℕ)
        (missing : (x : ℕ) → x < t.events → has conditions x ≡ is_missing m x)
        (pending : (x : ℕ) → x < t.events → has milestones x ≡ is_waiting m x)
      where
        holding_back : (k : ℕ) → k < t.count
            → (followed (relation_of t k) && holds_back (relation_of t k) (record_of m (relation_of t k).right)) ≡ leads_on conditions milestones (relation_of t k)
        unfolding holds_back
        holding_back k b =
            let exists = (good.relations_good k b).right_exists in
            let r = record_of m (relation_of t k).right in
            rw (missing (relation_of t k).right exists, pending (relation_of t k).right exists)
            (go (is_condition (relation_of t k)) (is_milestone (relation_of t k)) r.included r.happened r.pending)
          where
            go : (a c i h p : Bool) → ((a || c) && (i && (a && not h || c && p))) ≡ (a && (i && not h) || c && (i && p))
            go true c true h p = refl
            go true true false h p = refl
            go true false false h p = refl
            go false true i h p = refl
            go false false i h p = refl

        pub needed_reached : (due r : ℕ) → due ≡ due_set m → Reached (followed_in rows conditions milestones) due r → r ≡ needed t m
        unfolding needed
        needed_reached due r q reached =
            reached_fully t good (followed_in rows conditions milestones) _ (λ e b x. followed_along e b x conditions milestones _ holding_back)
            (due_set m) r (due_fits t good m sized) (rw (← q) reached)

    -- with nothing due, nothing
    pub needed_none : (due : ℕ) → due ≡ due_set m → due ≡ 0 → 0 ≡ needed t m
    needed_none due q none =
        needed_reached (set_of t.events (is_missing m)) (set_of t.events (is_waiting m)) (λ x b. set_has (is_missing m) t.events x b)
        (λ x b. set_has (is_waiting m) t.events x b) due 0 q (record {
          starts = λ x h. ap (λ (w : ℕ). has w x) (sym none) ∙ h;
          on = λ e x b h i. absurd (clash h (has_zero e));
          within = λ p start on x h. absurd (clash h (has_zero x));
        })

  -- The events of a set that are ready.
  module _ (set : ℕ) (fits : set < 2 ^ t.events) where
    -- the inhibitors of e that are in the set
    waited : (e : ℕ) → e < 64 → followed_in rows set set e ≡ set_of t.events (λ f. follows t e f && has set f)
    waited e b =
        set_by_test t.events (followed_in rows set set e) (λ f. follows t e f && has set f)
        (λ x h. has_below t.events set x fits (either_way (has waits x) (has awaits x) (has set x) (sym (parts set x) ∙ h)))
        (λ x l. parts set x ∙ turn (has waits x) (has awaits x) (has set x) (every_exists x l)
        ∙ ap (λ (a : Bool). a && has set x) (sym (parts every_event x) ∙ followed_follow e b x))
      where
        waits : ℕ
        waits = bit_or (row_of rows e 0) (row_of rows e 1)

        awaits : ℕ
        awaits = row_of rows e 2

        parts : (s x : ℕ) → has (followed_in rows s s e) x ≡ (has waits x && has s x || has awaits x && has s x)
        parts s x = has_or (bit_and waits s) (bit_and awaits s) x ∙ ap₂ ◌||◌ (has_and waits s x) (has_and awaits s x)

        every_exists : (x : ℕ) → x < t.events → has every_event x ≡ true
        every_exists x l = has_every x ∙ lt-ltb x 64 (omega (arith, good.few_events))

        either_way : (a c d : Bool) → (a && d || c && d) ≡ true → d ≡ true
        either_way a c true h = refl
        either_way a c false h = absurd (clash h (ap₂ ◌||◌ (and_false a) (and_false c)))

        turn : (a c d : Bool) {e : Bool} → e ≡ true → (a && d || c && d) ≡ ((a && e || c && e) && d)
        turn true c true h = rw h
        turn true c false h = rw h (and_false c)
        turn false c d h = rw (h, and-true)

    pub ready_is : (e : ℕ) → e < t.events → ready_in rows set e ≡ ready t set e
    unfolding ready
    ready_is e b =
        ap (λ (a : Bool). has set e && a)
        (ap (λ (w : ℕ). eqb w 0) (waited e (omega (arith, good.few_events))) ∙ set_empty (λ f. follows t e f && has set f) t.events)

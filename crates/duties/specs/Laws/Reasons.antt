-- The words and places that the engine works out are the reasons of the static check. Assumes nothing.
use Rattle.std.specs.Prelude.{◌≡◌, refl, Bool, false, not, ◌&&◌, cond, List, Some, None, eqb, ltb}
use Rattle.std.proofs.lemmas.Option.{none-some, cond_some}
use Rattle.std.proofs.Common.{◌∙◌, subst, arith}
use Rattle.std.proofs.Math.Path.{ap, ap₂, sym}
use Rattle.std.proofs.Math.Bool.{true, ◌||◌, and-true, and_assoc, and_comm, and-or_distrib_right}
use Rattle.std.proofs.Math.Logic.{⊎_elim}
use Prim.Native.Nat.{ℕ, ◌<◌, ◌≤◌, ◌^◌}
use Rattle.std.proofs.Math.Decide.{ℕ_discrete}
use Rattle.std.specs.Int.Bits.{bit_or, bit_and}
use borrow.Author.Tests.{eqb-true, eq-eqb, ne_eqb, lt-ltb, le-ltb, ltb-true, ltb-false}
use Rattle.rules.specs.declared.Relation.{Relation}
use Rattle.rules.specs.declared.Table.{Table}
use Rattle.rules.specs.declared.Marking.{Marking}
use Rattle.rules.specs.CheckAnswer.{CheckAnswer, Refused, Accepts, Rejects}
use Rattle.rules.specs.Results.{reason_number}
use Rattle.rules.specs.Counting.{some, lowest}
use Rattle.rules.specs.EventSet.{has, set_of}
use Rattle.rules.specs.Holds.{is_condition, is_response, is_inclusion, is_exclusion, is_milestone, is_controllable, relation_of, record_of}
use Rattle.rules.specs.Effect.{leads}
use Rattle.rules.specs.Closure.{inhibits, busy, closure}
use Rattle.rules.specs.Check.{unreportable, uncausable, waiting, on_cycle, reopening, reviving, reason, verdict}
use Rattle.rules.proofs.Laws.Tests.{decide, clash, not_true, both, either, join, same_test}
use Rattle.rules.proofs.Laws.Counting.{some_where, some_at, lowest_cases, lowest_is, lowest_none, lowest_same}
use Rattle.rules.proofs.Laws.EventSet.{has_zero, set_has, set_holds}
use Rattle.rules.proofs.Laws.Bitwise.{has_or, has_and, has_one}
use Rattle.rules.specs.Shapes.Good.{GoodTable}
use Rattle.rules.proofs.Laws.Widened.{has_below}
use Rattle.acts.specs.declared.derived.Head.{Head}
use Rattle.acts.specs.declared.table_words.Rows.{Rows}
use Rattle.acts.specs.Events.{Taken}
use Rattle.acts.specs.Words.{RowsOf}
use Rattle.acts.specs.Derived.{sort_of, row_of, sorted, Derived, every_event}
use Rattle.duties.specs.Inhibition.{inhibitors_in, is_answer, Answers, held_in, place}
use Rattle.duties.specs.declared.reasons.Finding.{Finding}
use Rattle.duties.specs.Reasons.{Led, Ends, matters, applies, first_reason, rejection_by, verdict_of}
use Rattle.acts.specs.Laws.Members.{set_by_test, has_every}
use Rattle.acts.specs.Laws.Derived.{right_small}
use Rattle.duties.specs.Laws.Sets.{is_owed}
use Rattle.acts.specs.Laws.Sorts.{sorts}
use Rattle.acts.specs.Laws.Sorted.{some_either}
use Rattle.duties.specs.Laws.Followed.{inhibitors_are}
use Rattle.acts.specs.Laws.Each.{some_member}
use Rattle.duties.specs.Laws.Ends.{ends_same, ends_or, ends_and, ends_exist, from, led_ends, led_every}

-- what is sought among more places than exist is the lowest place that exists, or there is none
module _ (n room r : ℕ) (f g : ℕ → Bool) (exists : (x : ℕ) → f x ≡ true → x < n) (same : (x : ℕ) → x < n → f x ≡ g x) (at : r ≡ lowest room f) where
  pub sought_none : n ≤ room → room ≤ r → lowest n g ≡ n
  sought_none few none =
      ⊎_elim
      (λ d. absurd (omega (arith, d.small, at)))
      (λ d. lowest_none g n (λ y l. sym (same y l) ∙ d.nowhere y (omega arith)))
      (lowest_cases f room)

  pub sought_at : r < room → (lowest n g ≡ r) × (r < n)
  sought_at b =
      ⊎_elim
      (λ d. let here : f r ≡ true = ap f at ∙ d.holds in let small = exists r here in
      (lowest_is g n r small (sym (same r small) ∙ here) (λ y l. sym (same y (omega arith)) ∙ d.first y (omega (arith, at))), small))
      (λ d. absurd (omega (arith, d.whole, at)))
      (lowest_cases f room)

-- the lowest event of a word is the lowest place of its test
module _ (n w : ℕ) (f : ℕ → Bool) (made : w ≡ set_of n f) where
  pub place_none : w ≡ 0 → lowest n f ≡ n
  place_none e = lowest_none f n (λ y l. sym (set_has f n y l) ∙ ap (λ (v : ℕ). has v y) (sym made ∙ e) ∙ has_zero y)

  pub place_at : {r rest : ℕ} → Taken w r rest → (lowest n f ≡ r) × (r < n)
  place_at {r} t =
      let there = set_holds f n r (ap (λ (v : ℕ). has v r) (sym made) ∙ t.inside) in (
        lowest_is f n r there.0 there.1
            (λ y l. sym (set_has f n y (omega (arith, l, there.0))) ∙ ap (λ (v : ℕ). has v y) (sym made) ∙ t.first y l),
        there.0,
      )

-- a place among the first n, or none
pub place_past : (n p : ℕ) → None ≡ place n p → n ≤ p
place_past n p = go (ltb p n) refl
  where
    go : (b : Bool) → ltb p n ≡ b → None ≡ cond b (Some p) None → n ≤ p
    go true e h = absurd (none-some p h)
    go false e h = ltb-false p n e

pub place_in : (n p r : ℕ) → Some r ≡ place n p → (r ≡ p) × (r < n)
place_in n p r h =
    let q = cond_some (ltb p n) p r (sym h) in
    (sym q.1, subst (λ (x : ℕ). x < n) q.1 (ltb-true p n q.0))

-- a reason at its place, or the next
pub reason_none : (number n : ℕ) (f : ℕ → Bool) (next : CheckAnswer) → lowest n f ≡ n → reason number n f next ≡ next
reason_none number n f next e = rw (e, le-ltb n n (omega arith))

pub reason_at : (number n p : ℕ) (f : ℕ → Bool) (next : CheckAnswer) → (lowest n f ≡ p) × (p < n) → reason number n f next ≡ Rejects number p
reason_at number n p f next at = rw (at.0, lt-ltb p n at.1)

module _ (t : Table) (good : GoodTable t) (rows : List ℕ) (made : Derived t t.count rows) where
  -- what answers a bounded response, by the rows
  pub answers_told : (answers : ℕ) → ((x : ℕ) → has answers x ≡ some t.events (λ e. has (row_of rows e 3) x)) → Answers t t.count answers
  answers_told answers told x = told x ∙ same_test _ _ there back
    where
      -- a relation by which x answers
      answering : ℕ → Bool
      answering k = is_answer (relation_of t k) && eqb (relation_of t k).right x

      there : some t.events (λ e. has (row_of rows e 3) x) ≡ true → some t.count answering ≡ true
      there h =
          let e = some_where _ t.events h in
          let k = some_where (sorted t 3 e.0 x) t.count (sym (made.row e.0 (omega (arith, e.1, good.few_events)) 3 (omega arith) x) ∙ e.2) in
          let p = both (eqb (sort_of (relation_of t k.0)) 3) (leads (relation_of t k.0) e.0 x) k.2 in
          some_at answering t.count k.0 k.1
          (join (sym (sorts (relation_of t k.0) (good.relations_good k.0 k.1)).answers ∙ p.0)
          (both (eqb (relation_of t k.0).left e.0) (eqb (relation_of t k.0).right x) p.1).1)

      back : some t.count answering ≡ true → some t.events (λ e. has (row_of rows e 3) x) ≡ true
      back h =
          let k = some_where answering t.count h in
          let p = both (is_answer (relation_of t k.0)) (eqb (relation_of t k.0).right x) k.2 in
          let l = (relation_of t k.0).left in
          let exists = (good.relations_good k.0 k.1).left_exists in
          some_at (λ e. has (row_of rows e 3) x) t.events l exists
          (made.row l (omega (arith, exists, good.few_events)) 3 (omega arith) x
          ∙ some_at (sorted t 3 l x) t.count k.0 k.1
          (join ((sorts (relation_of t k.0) (good.relations_good k.0 k.1)).answers ∙ p.0) (join (eq-eqb l l refl) p.1)))

module _ (t : Table) (good : GoodTable t) (m : Marking) (every : ℕ) (all : (x : ℕ) → has every x ≡ ltb x t.events) where
  -- busy
  pub busy_word : (owed answers : ℕ) → ((x : ℕ) → x < t.events → has owed x ≡ is_owed m x) → Answers t t.count answers
      → bit_or (bit_and owed every) answers ≡ set_of t.events (busy t m)
  unfolding busy
  busy_word owed answers told ends =
      set_by_test t.events (bit_or (bit_and owed every) answers) (busy t m)
      (λ x h. ⊎_elim (exists x) (λ p. ends_exist t good (λ k. is_response (relation_of t k) && (relation_of t k).bounded) answers x ends p)
      (either (has (bit_and owed every) x) (has answers x) (sym (has_or (bit_and owed every) answers x) ∙ h)))
      (λ x b. has_or (bit_and owed every) answers x ∙ ap₂ ◌||◌ (within x b ∙ told x b) (ends x))
    where
      exists : (x : ℕ) → has (bit_and owed every) x ≡ true → x < t.events
      exists x h = ltb-true x t.events (sym (all x) ∙ (both (has owed x) (has every x) (sym (has_and owed every x) ∙ h)).1)

      within : (x : ℕ) → x < t.events → has (bit_and owed every) x ≡ has owed x
      within x b = has_and owed every x ∙ rw (all x, lt-ltb x t.events b) (and-true (has owed x))

  module _ (rows : List ℕ) (made : Derived t t.count rows) where
    -- an event has an inhibitor where a relation that inhibits has it as left
    held_where : (e : ℕ) → e < t.events
        → not (eqb (inhibitors_in rows e) 0) ≡ some t.count (λ k. inhibits (relation_of t k) && eqb (relation_of t k).left e)
    held_where e b = same_test _ _ there back
      where
        row : ℕ
        row = inhibitors_in rows e

        -- a relation by which x is an inhibitor of e
        inhibiting : ℕ → ℕ → Bool
        inhibiting x k = inhibits (relation_of t k) && leads (relation_of t k) e x

        told : (x : ℕ) → has row x ≡ some t.count (inhibiting x)
        told = inhibitors_are t good rows made e (omega (arith, good.few_events))

        inhibitor : (x : ℕ) → has row x ≡ true → (k : ℕ) × (k < t.count) × (inhibits (relation_of t k) ≡ true) × (leads (relation_of t k) e x ≡ true)
        inhibitor x h =
            let k = some_where (inhibiting x) t.count (sym (told x) ∙ h) in
            let p = both (inhibits (relation_of t k.0)) (leads (relation_of t k.0) e x) k.2 in
            (k.0, k.1, p.0, p.1)

        there : not (eqb row 0) ≡ true → some t.count (λ k. inhibits (relation_of t k) && eqb (relation_of t k).left e) ≡ true
        there h =
            let x = some_member 64 row
            (λ x i. let k = inhibitor x i in
            subst (λ (y : ℕ). y < 64) (eqb-true _ _ (both (eqb (relation_of t k.0).left e) _ k.3).1) (right_small t good k.0 k.1))
            (λ q. clash (eq-eqb row 0 q) (not_true _ h)) in
            let k = inhibitor x.0 x.1 in
            some_at _ t.count k.0 k.1 (join k.2 (both (eqb (relation_of t k.0).left e) _ k.3).0)

        back : some t.count (λ k. inhibits (relation_of t k) && eqb (relation_of t k).left e) ≡ true → not (eqb row 0) ≡ true
        back h =
            let k = some_where _ t.count h in
            let p = both (inhibits (relation_of t k.0)) (eqb (relation_of t k.0).left e) k.2 in
            let x = (relation_of t k.0).right in
            let inside : has row x ≡ true = told x ∙ some_at (inhibiting x) t.count k.0 k.1 (join p.0 (join p.1 (eq-eqb x x refl))) in
            ap not (ne_eqb row 0 (λ q. clash inside (ap (λ (v : ℕ). has v x) q ∙ has_zero x)))

    -- 1
    pub unreportable_word : (included excluded barred uncontrolled held : ℕ) → ((x : ℕ) → x < t.events → has included x ≡ (record_of m x).included)
        → ((x : ℕ) → has excluded x ≡ (has every x && not (has included x)))
        → Led rows 6 every barred
        → ((x : ℕ) → has uncontrolled x ≡ (has every x && not (is_controllable t x)))
        → ((x : ℕ) → has held x ≡ held_in rows uncontrolled x)
        → bit_or (bit_and (bit_or excluded barred) uncontrolled) held ≡ set_of t.events (unreportable t m)
    unfolding unreportable
    unreportable_word included excluded barred uncontrolled held told others led rest holds =
        set_by_test t.events (bit_or stopped held) (unreportable t m)
        (λ x h. ⊎_elim
        (λ p. free_exists x (both (has excluded x || has barred x) (has uncontrolled x) (sym (stops x) ∙ p)).1)
        (λ p. free_exists x (both (has uncontrolled x) _ (sym (holds x) ∙ p)).0)
        (either (has stopped x) (has held x) (sym (has_or stopped held x) ∙ h)))
        same
      where
        stopped : ℕ
        stopped = bit_and (bit_or excluded barred) uncontrolled

        stops : (x : ℕ) → has stopped x ≡ ((has excluded x || has barred x) && has uncontrolled x)
        stops x = has_and (bit_or excluded barred) uncontrolled x ∙ ap (λ (a : Bool). a && has uncontrolled x) (has_or excluded barred x)

        ends : Ends t (λ k. is_exclusion (relation_of t k)) barred
        ends =
            ends_same t _ _ barred (λ k b. (sorts (relation_of t k) (good.relations_good k b)).exclusions)
            (led_every t good rows made 6 every barred (omega arith) all led)

        free_exists : (x : ℕ) → has uncontrolled x ≡ true → x < t.events
        free_exists x h = ltb-true x t.events (sym (all x) ∙ (both (has every x) _ (sym (rest x) ∙ h)).0)

        gathered : (a b c h : Bool) → (((a || b) && c) || (c && h)) ≡ (c && (a || (b || h)))
        gathered true b true h = refl
        gathered false true true h = refl
        gathered false false true h = refl
        gathered true b false h = refl
        gathered false true false h = refl
        gathered false false false h = refl

        same : (x : ℕ) → x < t.events → has (bit_or stopped held) x ≡ unreportable t m x
        same x b =
            let every-has = all x ∙ lt-ltb x t.events b in
            let out : has excluded x ≡ not (record_of m x).included = others x ∙ ap₂ (λ (a c : Bool). a && not c) every-has (told x b) in
            let free : has uncontrolled x ≡ not (is_controllable t x) = rest x ∙ ap (λ (a : Bool). a && not (is_controllable t x)) every-has in
            has_or stopped held x
            ∙ ap₂ ◌||◌ (stops x ∙ ap₂ ◌&&◌ (ap₂ ◌||◌ out (ends x)) free) (holds x ∙ ap₂ ◌&&◌ free (held_where x b))
            ∙ gathered (not (record_of m x).included) _ (not (is_controllable t x)) _
            ∙ ap (λ (a : Bool). not (is_controllable t x) && (not (record_of m x).included || a)) (some_either _ _ t.count)

-- 2, 4: of any set of events
module _ (t : Table) (closed : ℕ) (fits : closed < 2 ^ t.events) where
  uncausable_word : (w : ℕ) → ((x : ℕ) → has w x ≡ (has closed x && not (has t.causable x))) → w ≡ set_of t.events (uncausable t closed)
  unfolding uncausable
  uncausable_word w made =
      set_by_test t.events w (uncausable t closed)
      (λ x h. has_below t.events closed x fits (both (has closed x) (not (has t.causable x)) (sym (made x) ∙ h)).0)
      (λ x b. made x)

  cyclic_exists : (x : ℕ) → on_cycle t closed x ≡ true → x < t.events
  unfolding on_cycle
  cyclic_exists x h = has_below t.events closed x fits (both (has closed x) _ h).0

-- 3, 5, 6: the same tests in another order
turned : (a b c : Bool) → (a && b && c) ≡ (a && c && b)
turned a b c = and_assoc a b c ∙ ap (λ (d : Bool). a && d) (and_comm b c) ∙ sym (and_assoc a c b)

-- where the kinds are one kind
of_kind : (n kind : ℕ) → has (2 ^ n) kind ≡ eqb kind n
of_kind n kind = has_one n kind ∙ go (ℕ_discrete n kind)
  where
    go : Dec (n ≡ kind) → eqb n kind ≡ eqb kind n
    go (yes q) = eq-eqb n kind q ∙ sym (eq-eqb kind n (sym q))
    go (no d) = ne_eqb n kind d ∙ sym (ne_eqb kind n (λ q. d (sym q)))

-- a relation of one kind, from the closure
module _ (k : Relation) (closed rights : ℕ) where
  abbrev pub rest : Bool
  rest = has closed k.left && (has rights k.right && matters k)

  waiting_applies : has rights k.right ≡ true → applies 2 closed rights k ≡ (is_condition k && has closed k.left && ltb 0 k.time)
  waiting_applies all = ap (λ (a : Bool). a && rest) (of_kind 1 k.kind) ∙ ⊎_elim (λ h. rw (eqb-true k.kind 1 h, all)) (λ h. rw h) (decide (eqb k.kind 1))

  reopening_applies : applies 4 closed rights k ≡ (is_response k && has closed k.left && has rights k.right)
  reopening_applies =
      ap (λ (a : Bool). a && rest) (of_kind 2 k.kind)
      ∙ ⊎_elim (λ h. rw (eqb-true k.kind 2 h, and-true (has rights k.right))) (λ h. rw h) (decide (eqb k.kind 2))

  reviving_applies : applies 8 closed rights k ≡ (is_inclusion k && has closed k.left && has rights k.right && not (eqb k.left k.right))
  reviving_applies =
      ap (λ (a : Bool). a && rest) (of_kind 3 k.kind)
      ∙ ⊎_elim (λ h. rw (eqb-true k.kind 3 h) (sym (and_assoc (has closed k.left) (has rights k.right) (not (eqb k.left k.right)))))
      (λ h. rw h) (decide (eqb k.kind 3))

-- the relation that is looked for
module _ (t : Table) (good : GoodTable t) (closed : ℕ) where
  first_waiting : first_reason t 2 closed every_event ≡ lowest t.count (waiting t closed)
  unfolding first_reason waiting
  first_waiting =
      lowest_same _ _ t.count
      (λ k b. waiting_applies (relation_of t k) closed every_event (has_every (relation_of t k).right ∙ lt-ltb _ _ (right_small t good k b)))

  first_reviving : first_reason t 8 closed closed ≡ lowest t.count (reviving t closed)
  unfolding first_reason reviving
  first_reviving = lowest_same _ _ t.count (λ k b. reviving_applies (relation_of t k) closed closed)

module _ (t : Table) (good : GoodTable t) (rows : List ℕ) (made : Derived t t.count rows) (closed : ℕ) where
  led : (s w : ℕ) → s < 8 → (f : ℕ → Bool) → ((k : ℕ) → k < t.count → eqb (sort_of (relation_of t k)) s && has closed (relation_of t k).left ≡ f k)
      → Led rows s closed w → Ends t f w
  led s w few f same h = ends_same t _ f w same (led_ends t good rows made s closed w few h)

  -- 3
  waiting_ends : (w : ℕ) → Led rows 1 closed w → Ends t (waiting t closed) w
  unfolding waiting
  waiting_ends w h =
      led 1 w (omega arith) _
      (λ k b. ap (λ (a : Bool). a && has closed (relation_of t k).left) (sorts (relation_of t k) (good.relations_good k b)).waiting
      ∙ turned (is_condition (relation_of t k)) (ltb 0 (relation_of t k).time) (has closed (relation_of t k).left)) h

  -- 5
  milestones_end : (w : ℕ) → Led rows 2 closed w → Ends t (λ k. is_milestone (relation_of t k) && has closed (relation_of t k).left) w
  milestones_end w h =
      led 2 w (omega arith) _
      (λ k b. ap (λ (a : Bool). a && has closed (relation_of t k).left) (sorts (relation_of t k) (good.relations_good k b)).milestones) h

  answers_end : (bounded eventual : ℕ) → Led rows 3 closed bounded → Led rows 4 closed eventual
      → Ends t (λ k. is_response (relation_of t k) && has closed (relation_of t k).left) (bit_or bounded eventual)
  answers_end bounded eventual one other =
      ends_same t _ _ (bit_or bounded eventual)
      (λ k b. sym (and-or_distrib_right (eqb (sort_of (relation_of t k)) 3) (eqb (sort_of (relation_of t k)) 4) (has closed (relation_of t k).left))
      ∙ ap (λ (a : Bool). a && has closed (relation_of t k).left) (sorts (relation_of t k) (good.relations_good k b)).responses)
      (ends_or t (from t 3 closed) (from t 4 closed) bounded eventual (led_ends t good rows made 3 closed bounded (omega arith) one)
      (led_ends t good rows made 4 closed eventual (omega arith) other))

  reopening_ends : (milestones bounded eventual : ℕ) → Led rows 2 closed milestones
      → Led rows 3 closed bounded → Led rows 4 closed eventual
      → Ends t (reopening t closed) (bit_and (bit_or bounded eventual) milestones)
  unfolding reopening
  reopening_ends milestones bounded eventual h one other =
      ends_same t _ _ (bit_and (bit_or bounded eventual) milestones)
      (λ k b. ap (λ (a : Bool). is_response (relation_of t k) && has closed (relation_of t k).left && a) (milestones_end milestones h (relation_of t k).right))
      (ends_and t (λ k. is_response (relation_of t k) && has closed (relation_of t k).left) (bit_or bounded eventual) milestones
      (answers_end bounded eventual one other))

  first_reopening : (milestones : ℕ) → Led rows 2 closed milestones → first_reason t 4 closed milestones ≡ lowest t.count (reopening t closed)
  unfolding first_reason reopening
  first_reopening milestones h =
      lowest_same _ _ t.count
      (λ k b. reopening_applies (relation_of t k) closed milestones
      ∙ ap (λ (a : Bool). is_response (relation_of t k) && has closed (relation_of t k).left && a) (milestones_end milestones h (relation_of t k).right))

  -- 6
  reviving_ends : (w : ℕ) → Led rows 5 closed w → Ends t (reviving t closed) (bit_and w closed)
  unfolding reviving
  reviving_ends w h =
      ends_same t _ _ (bit_and w closed)
      (λ k b. ap (λ (a : Bool). a && has closed (relation_of t k).left && has closed (relation_of t k).right)
      (sorts (relation_of t k) (good.relations_good k b)).inclusions
      ∙ ap (λ (a : Bool). a && has closed (relation_of t k).right) (turned (is_inclusion (relation_of t k)) _ (has closed (relation_of t k).left))
      ∙ turned (is_inclusion (relation_of t k) && has closed (relation_of t k).left) _ (has closed (relation_of t k).right))
      (ends_and t (from t 5 closed) w closed (led_ends t good rows made 5 closed w (omega arith) h))

-- What is left to say past each of the reasons after the first.
abbrev pub after_five : Table → ℕ → CheckAnswer
after_five t closed = reason 6 t.count (reviving t closed) Accepts

abbrev pub after_four : Table → ℕ → CheckAnswer
after_four t closed = reason 5 t.count (reopening t closed) (after_five t closed)

abbrev pub after_three : Table → ℕ → CheckAnswer
after_three t closed = reason 4 t.events (on_cycle t closed) (after_four t closed)

abbrev pub after_two : Table → ℕ → CheckAnswer
after_two t closed = reason 3 t.count (waiting t closed) (after_three t closed)

is_accepts : CheckAnswer → Bool
is_accepts Accepts = true
is_accepts (Rejects r p) = false
is_accepts (Refused n) = false

accepts_not_rejects : (r p : ℕ) → Accepts ≡ Rejects r p → ⊥
unfolding is_accepts
accepts_not_rejects r p h = clash (ap is_accepts (sym h)) refl

-- a reason by itself says that it does not apply, or where it does, whatever would be next
module _ (number n : ℕ) (f : ℕ → Bool) (next : CheckAnswer) where
  reason_on : Accepts ≡ reason number n f Accepts → reason number n f next ≡ next
  reason_on = go (ltb (lowest n f) n)
    where
      go : (b : Bool) → Accepts ≡ cond b (Rejects number (lowest n f)) Accepts → cond b (Rejects number (lowest n f)) next ≡ next
      go true h = absurd (accepts_not_rejects _ _ h)
      go false h = refl

  reason_here : (r p : ℕ) → Rejects r p ≡ reason number n f Accepts → Rejects r p ≡ reason number n f next
  reason_here r p = go (ltb (lowest n f) n)
    where
      go : (b : Bool) → Rejects r p ≡ cond b (Rejects number (lowest n f)) Accepts → Rejects r p ≡ cond b (Rejects number (lowest n f)) next
      go true h = h
      go false h = absurd (accepts_not_rejects r p (sym h))

-- what is said of a reason, known by its events or by the events that its relations lead to
abbrev pub SaidOfEvents : ℕ → ℕ → (Table → CheckAnswer) → Type 0
SaidOfEvents number set said = (t : Table) (n : ℕ) (f : ℕ → Bool) → set ≡ set_of n f → said t ≡ reason number n f Accepts

abbrev pub SaidOfRelations : ℕ → ℕ → ℕ → ℕ → ℕ → (Table → CheckAnswer) → Type 0
SaidOfRelations number ends kinds lefts rights said =
    (t : Table) (f : ℕ → Bool) → GoodTable t → Ends t f ends → first_reason t kinds lefts rights ≡ lowest t.count f
    → said t ≡ reason number t.count f Accepts

-- nothing is found, or this is
abbrev pub accepts : Table → CheckAnswer
accepts t = Accepts

abbrev pub rejects : Finding → Table → CheckAnswer
rejects finding t = let rejection = rejection_by t finding in Rejects (reason_number rejection.reason) rejection.place

-- Each reason after the first in turn: it does not apply and what is left is said, or this is the verdict.
module _ {t : Table} {rows : Rows} (of : RowsOf t rows) {closed : ℕ} (fits : closed < 2 ^ t.events) where
  two_word : (w : ℕ) → ((x : ℕ) → has w x ≡ (has closed x && not (has rows.head.causable x))) → w ≡ set_of t.events (uncausable t closed)
  two_word w made = uncausable_word t closed fits w (λ x. made x ∙ ap (λ (h : Head). has closed x && not (has h.causable x)) of.headed)

  pub two_none : (w : ℕ) → ((x : ℕ) → has w x ≡ (has closed x && not (has rows.head.causable x))) → SaidOfEvents 2 w accepts
      → verdict_of t closed ≡ after_two t closed
  unfolding verdict_of
  two_none w made said = reason_on 2 _ _ _ (said t t.events (uncausable t closed) (two_word w made))

  pub two_at : (w : ℕ) → ((x : ℕ) → has w x ≡ (has closed x && not (has rows.head.causable x))) → (finding : Finding)
      → SaidOfEvents 2 w (rejects finding) → rejects finding t ≡ verdict_of t closed
  unfolding verdict_of
  two_at w made finding said = reason_here 2 _ _ _ _ _ (said t t.events (uncausable t closed) (two_word w made))

  pub three_none : (w : ℕ) → Led rows.words 1 closed w → SaidOfRelations 3 w 2 closed every_event accepts → after_two t closed ≡ after_three t closed
  three_none w led-to said =
      reason_on 3 _ _ _ (said t (waiting t closed) of.good (waiting_ends t of.good rows.words of.derived closed w led-to) (first_waiting t of.good closed))

  pub three_at : (w : ℕ) → Led rows.words 1 closed w → (finding : Finding) → SaidOfRelations 3 w 2 closed every_event (rejects finding)
      → rejects finding t ≡ after_two t closed
  three_at w led-to finding said =
      reason_here 3 _ _ _ _ _
      (said t (waiting t closed) of.good (waiting_ends t of.good rows.words of.derived closed w led-to) (first_waiting t of.good closed))

  pub four_none : None ≡ place 64 (lowest 64 (on_cycle t closed)) → after_three t closed ≡ after_four t closed
  four_none at =
      reason_none 4 _ _ _
      (sought_none t.events 64 _ (on_cycle t closed) (on_cycle t closed) (cyclic_exists t closed fits) (λ x b. refl) refl of.good.few_events
      (place_past 64 _ at))

  pub four_at : (r : ℕ) → Some r ≡ place 64 (lowest 64 (on_cycle t closed)) → Rejects 4 r ≡ after_three t closed
  four_at r at =
      let there = place_in 64 _ r at in
      sym (reason_at 4 _ _ _ _
      (sought_at t.events 64 r (on_cycle t closed) (on_cycle t closed) (cyclic_exists t closed fits) (λ x b. refl) there.0 there.1))

  module _ (milestones bounded eventual : ℕ)
      (led-to : Led rows.words 2 closed milestones) (soon : Led rows.words 3 closed bounded) (later : Led rows.words 4 closed eventual)
    where
      five_ends : Ends t (reopening t closed) (bit_and (bit_or bounded eventual) milestones)
      five_ends = reopening_ends t of.good rows.words of.derived closed milestones bounded eventual led-to soon later

      five_first : first_reason t 4 closed milestones ≡ lowest t.count (reopening t closed)
      five_first = first_reopening t of.good rows.words of.derived closed milestones led-to

      pub five_none : SaidOfRelations 5 (bit_and (bit_or bounded eventual) milestones) 4 closed milestones accepts
          → after_four t closed ≡ after_five t closed
      five_none said = reason_on 5 _ _ _ (said t (reopening t closed) of.good five_ends five_first)

      pub five_at : (finding : Finding) → SaidOfRelations 5 (bit_and (bit_or bounded eventual) milestones) 4 closed milestones (rejects finding)
          → rejects finding t ≡ after_four t closed
      five_at finding said = reason_here 5 _ _ _ _ _ (said t (reopening t closed) of.good five_ends five_first)

  pub six_is : (w : ℕ) → Led rows.words 5 closed w → (said : Table → CheckAnswer) → SaidOfRelations 6 (bit_and w closed) 8 closed closed said
      → said t ≡ after_five t closed
  six_is w led-to said told =
      told t (reviving t closed) of.good (reviving_ends t of.good rows.words of.derived closed w led-to) (first_reviving t of.good closed)

-- and the first, before them
module _ (t : Table) (m : Marking) (good : GoodTable t) (set : ℕ) (made : set ≡ set_of t.events (unreportable t m)) where
  pub one_none : SaidOfEvents 1 set accepts → verdict t m ≡ verdict_of t (closure t m)
  unfolding verdict verdict_of
  one_none said = reason_on 1 _ _ _ (said t t.events (unreportable t m) made)

  pub one_at : (finding : Finding) → SaidOfEvents 1 set (rejects finding) → rejects finding t ≡ verdict t m
  unfolding verdict verdict_of
  one_at finding said = reason_here 1 _ _ _ _ _ (said t t.events (unreportable t m) made)

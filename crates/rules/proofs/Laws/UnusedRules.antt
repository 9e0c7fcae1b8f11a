-- The rules on tables and markings that agree on the places in use: each says the same of both. An effect and a tick lead from markings that
-- agree to markings that agree. Where a rule reads the record of an event that a relation names, the table is judged 'done'. Assumes nothing.
use Rattle.std.specs.Prelude.{◌≡◌, Bool, true, false, ◌&&◌, ◌||◌, cond, ltb, get_or, length}
use Rattle.std.proofs.Math.Path.{refl, ap}
use Rattle.std.proofs.Common.{◌∙◌, sym, arith, ltb-true, ltb-false}
use Rattle.std.proofs.Math.Bool.{not}
use Prim.Native.Nat.{ℕ, zero, suc, ◌<◌, ◌≤◌}
use Rattle.std.proofs.Math.ListN.{get_or-eq_default}
use Rattle.rules.specs.declared.Relation.{Relation}
use Rattle.rules.specs.declared.Table.{Table}
use Rattle.rules.specs.declared.Record.{Record}
use Rattle.rules.specs.declared.Marking.{Marking}
use Rattle.rules.specs.CheckAnswer.{CheckAnswer}
use Rattle.rules.specs.Counting.{some, lowest, repeated, each_below}
use Rattle.rules.specs.Numbers.{first_of}
use Rattle.rules.specs.EventSet.{has, set_of, with_event}
use Rattle.rules.specs.Holds.{most_events, empty_record, is_response, is_controllable, relation_of, record_of, with_records}
use Rattle.rules.specs.Judge.{relation_number, table_number, record_number, marking_number, marking_number_for, judged}
use Rattle.rules.specs.Effect.{excludes, includes, smallest, response, with_inclusion, effect_at, effect}
use Rattle.rules.specs.Time.{any_due, due_set, later, time}
use Rattle.rules.specs.Enabled.{blocks, is_enabled}
use Rattle.rules.specs.HoldUp.{would_block, hold_up_of}
use Rattle.rules.specs.Chain.{Visit, nothing, led_to, along, visit, chain}
use Rattle.rules.specs.Closure.{busy, followed, follows, widened, widened_fully, closure}
use Rattle.rules.specs.Check.{unreportable, uncausable, waiting, awaited, on_cycle, reopening, reviving, reason, verdict}
use Rattle.rules.specs.Quiet.{quiet_ticks}
use Rattle.rules.specs.Unused.{SameTable, SameMarking}
use Rattle.rules.proofs.Laws.Counting.{some_same, lowest_same, repeated_both, length_each_below, each_below_changed}
use Rattle.rules.proofs.Laws.Numbers.{first_same}
use Rattle.rules.proofs.Laws.EventSet.{set_same_test}
use Rattle.rules.proofs.Laws.Links.{along_same}
use Rattle.rules.specs.Shapes.Good.{GoodTable}

-- Counting up to counts that are the same, by tests that say the same below them
module _ {a b : ℕ} (counts : a ≡ b) where
  pub first_agree : (f g : ℕ → ℕ) → ((i : ℕ) → i < a → f i ≡ g i) → first_of a f ≡ first_of b g
  first_agree f g h = first_same f g a h ∙ ap (λ (n : ℕ). first_of n g) counts

  pub some_agree : (f g : ℕ → Bool) → ((i : ℕ) → i < a → f i ≡ g i) → some a f ≡ some b g
  some_agree f g h = some_same f g a h ∙ ap (λ (n : ℕ). some n g) counts

  pub lowest_agree : (f g : ℕ → Bool) → ((i : ℕ) → i < a → f i ≡ g i) → lowest a f ≡ lowest b g
  lowest_agree f g h = lowest_same f g a h ∙ ap (λ (n : ℕ). lowest n g) counts

  set_agree : (f g : ℕ → Bool) → ((i : ℕ) → i < a → f i ≡ g i) → set_of a f ≡ set_of b g
  set_agree f g h = set_same_test f g a h ∙ ap (λ (n : ℕ). set_of n g) counts

  along_agree : (f g : ℕ → ℕ → Visit) (o : ℕ) → ((k p : ℕ) → k < a → f k p ≡ g k p) → along a f o ≡ along b g o
  along_agree f g o h = along_same f g a o h ∙ ap (λ (n : ℕ). along n g o) counts

-- Judging
module _ {t u : Table} (same : SameTable t u) where
  pub table_judged_lem : table_number t ≡ table_number u
  unfolding table_number
  table_judged_lem =
      rw (
        first_agree same.same_count (λ k. relation_number t.events (relation_of t k)) (λ k. relation_number u.events (relation_of u k))
            (λ k b. rw (same.same_events, same.same_relation k b)),
        same.same_events,
        same.same_count,
      )

module _ {m n : Marking} (same : SameMarking m n) where
  pub marking_judged_lem : marking_number m ≡ marking_number n
  unfolding marking_number
  marking_judged_lem =
      rw (
        first_agree same.same_events (λ e. record_number (record_of m e)) (λ e. record_number (record_of n e)) (λ e b. rw (same.same_record e b)),
        same.same_events,
      )

  pub marking_judged_for : (events : ℕ) → marking_number_for events m ≡ marking_number_for events n
  unfolding marking_number_for
  marking_judged_for events = rw (marking_judged_lem, same.same_events)

pub both_judged : {t u : Table} {m n : Marking} → SameTable t u → SameMarking m n → judged t m ≡ judged u n
unfolding judged
both_judged {t = t} {u = u} {m = m} {n = n} tables markings = rw (table_judged_lem tables, marking_judged_for markings t.events, tables.same_events)

-- A change of each record
module _ {m n : Marking} (same : SameMarking m n) (f g : ℕ → Record → Record) (alike : (x : ℕ) (r : Record) → f x r ≡ g x r) where
  each_agree : SameMarking (with_records m (each_below m.events f m.records)) (with_records n (each_below n.events g n.records))
  each_agree = record {
    same_length = length_each_below m.events f m.records ∙ same.same_length ∙ sym (length_each_below n.events g n.records);
    same_events = same.same_events;
    same_record = λ x b. at x b (ltb x (length m.records)) refl;
  }
    where
      at : (x : ℕ) → x < m.events → (there : Bool) → ltb x (length m.records) ≡ there
          → get_or (each_below m.events f m.records) x empty_record ≡ get_or (each_below n.events g n.records) x empty_record
      at x b true e =
          let here : x < length m.records = ltb-true x (length m.records) e in
          let there : x < length n.records = omega (arith, same.same_length) in
          each_below_changed m.events f m.records x empty_record here b
          ∙ ap (f x) (same.same_record x b)
          ∙ alike x (record_of n x)
          ∙ sym (each_below_changed n.events g n.records x empty_record there (omega (arith, same.same_events)))
      at x b false e =
          let past : length m.records ≤ x = ltb-false x (length m.records) e in
          get_or-eq_default (each_below m.events f m.records) empty_record (omega (arith, length_each_below m.events f m.records))
          ∙ sym (get_or-eq_default (each_below n.events g n.records) empty_record
          (omega (arith, length_each_below n.events g n.records, same.same_length)))

-- Effect
module _ {t u : Table} (same : SameTable t u) (e x : ℕ) where
  excludes_alike : excludes t e x ≡ excludes u e x
  unfolding excludes
  excludes_alike = some_agree same.same_count _ _ (λ k b. rw (same.same_relation k b))

  includes_alike : includes t e x ≡ includes u e x
  unfolding includes
  includes_alike = some_agree same.same_count _ _ (λ k b. rw (same.same_relation k b))

  smallest_alike : (n : ℕ) → n ≤ t.count → smallest t e x n ≡ smallest u e x n
  unfolding smallest
  smallest_alike zero b = refl
  smallest_alike (suc n) b = rw (smallest_alike n (omega arith), same.same_relation n (omega arith))

  response_alike : response t e x ≡ response u e x
  response_alike = smallest_alike t.count (omega arith) ∙ ap (smallest u e x) same.same_count

  effect_at_alike : (r : Record) → effect_at t e x r ≡ effect_at u e x r
  unfolding effect_at with_inclusion
  effect_at_alike r = rw (response_alike, includes_alike, excludes_alike, same.same_firm)

pub effect_agrees : {t u : Table} {m n : Marking} → SameTable t u → SameMarking m n → (e : ℕ) → SameMarking (effect t m e) (effect u n e)
unfolding effect
effect_agrees {t = t} {u = u} tables markings e = each_agree markings (effect_at t e) (effect_at u e) (λ x r. effect_at_alike tables e x r)

-- Time
pub time_agrees : {m n : Marking} → SameMarking m n → SameMarking (time m) (time n)
unfolding time
time_agrees markings = each_agree markings (λ e. later) (λ e. later) (λ x r. refl)

pub any_due_alike : {m n : Marking} → SameMarking m n → any_due m ≡ any_due n
unfolding any_due
any_due_alike same = some_agree same.same_events _ _ (λ e b. rw (same.same_record e b))

pub due_set_alike : {m n : Marking} → SameMarking m n → due_set m ≡ due_set n
unfolding due_set
due_set_alike same = set_agree same.same_events _ _ (λ e b. rw (same.same_record e b))

pub quiet_alike : {m n : Marking} → SameMarking m n → (most : ℕ) → quiet_ticks m most ≡ quiet_ticks n most
unfolding quiet_ticks
quiet_alike {m} {n} same most =
    lowest_same _ _ most (λ i b. any_due_alike (repeated_both time time SameMarking (λ k l a. time_agrees a) i m n same))

-- Tables and markings that agree, of which the first are a table judged 'done' and a marking of as many events: so every event that a
-- relation names is in use
pub record Agree (t u : Table) (m n : Marking) : Type 0 where
  pub tables : SameTable t u
  pub markings : SameMarking m n
  pub table_good : GoodTable t
  pub whole : m.events ≡ t.events

-- an effect and a tick keep that
pub after_effect : {t u : Table} {m n : Marking} → Agree t u m n → (e : ℕ) → Agree t u (effect t m e) (effect u n e)
unfolding effect
after_effect a e = record {
  tables = a.tables;
  markings = effect_agrees a.tables a.markings e;
  table_good = a.table_good;
  whole = a.whole;
}

pub after_time : {t u : Table} {m n : Marking} → Agree t u m n → Agree t u (time m) (time n)
unfolding time
after_time a = record { tables = a.tables; markings = time_agrees a.markings; table_good = a.table_good; whole = a.whole }

repeated_alike : {A : Type 0} (f g : A → A) → ((a : A) → f a ≡ g a) → (n : ℕ) (a : A) → repeated n f a ≡ repeated n g a
unfolding repeated
repeated_alike f g h zero a = refl
repeated_alike f g h (suc n) a = h (repeated n f a) ∙ ap g (repeated_alike f g h n a)

module _ {t u : Table} (same : SameTable t u) where
  pub follows_alike : (e f : ℕ) → follows t e f ≡ follows u e f
  unfolding follows
  follows_alike e f = some_agree same.same_count _ _ (λ k b. rw (same.same_relation k b))

  module _ (along by : ℕ → Bool) (alike : (k : ℕ) → k < t.count → along k ≡ by k) where
    widened_alike : (set : ℕ) → widened t along set ≡ widened u by set
    unfolding widened
    widened_alike set =
        set_agree same.same_events _ _
        (λ f b. ap (λ (reached : Bool). has set f || reached) (some_agree same.same_count _ _ (λ k c. rw (alike k c, same.same_relation k c))))

    pub fully_alike : (set : ℕ) → widened_fully t along set ≡ widened_fully u by set
    unfolding widened_fully
    fully_alike set =
        repeated_alike (widened t along) (widened u by) widened_alike t.events set
        ∙ ap (λ (n : ℕ). repeated n (widened u by) set) same.same_events

  awaited_alike : (e : ℕ) → awaited t e ≡ awaited u e
  unfolding awaited
  awaited_alike e =
      fully_alike (λ k. followed (relation_of t k)) (λ k. followed (relation_of u k)) (λ k b. rw (same.same_relation k b)) (set_of t.events (follows t e))
      ∙ ap (widened_fully u (λ k. followed (relation_of u k))) (set_agree same.same_events _ _ (λ f b. follows_alike e f))

module _ {t u : Table} {m n : Marking} (a : Agree t u m n) where
  relation_alike : (k : ℕ) → k < t.count → relation_of t k ≡ relation_of u k
  relation_alike = a.tables.same_relation

  -- the record of an event that exists, and of a relation's right event
  pub event_alike : (e : ℕ) → e < t.events → record_of m e ≡ record_of n e
  event_alike e b = a.markings.same_record e (rw a.whole b)

  pub right_alike : (k : ℕ) → k < t.count → record_of m (relation_of t k).right ≡ record_of n (relation_of u k).right
  right_alike k b =
      event_alike (relation_of t k).right (a.table_good.relations_good k b).right_exists
      ∙ ap (λ (r : Relation). record_of n r.right) (relation_alike k b)

  -- Enabled, hold-up
  blocks_alike : (e k : ℕ) → k < t.count → blocks t m e k ≡ blocks u n e k
  unfolding blocks
  blocks_alike e k b = rw (right_alike k b, relation_alike k b)

  pub enabled_alike : (e : ℕ) → e < t.events → is_enabled t m e ≡ is_enabled u n e
  unfolding is_enabled
  enabled_alike e b = rw (event_alike e b, some_agree a.tables.same_count (blocks t m e) (blocks u n e) (blocks_alike e))

  would_block_alike : (e k : ℕ) → k < t.count → would_block t m e k ≡ would_block u n e k
  unfolding would_block
  would_block_alike e k b = rw (right_alike k b, relation_alike k b)

  pub hold_up_alike : (e : ℕ) → e < t.events → hold_up_of t m e ≡ hold_up_of u n e
  unfolding hold_up_of
  hold_up_alike e b =
      rw (
        event_alike e b,
        lowest_agree a.tables.same_count (blocks t m e) (blocks u n e) (blocks_alike e),
        lowest_agree a.tables.same_count (would_block t m e) (would_block u n e) (would_block_alike e),
        a.tables.same_count,
      )

  -- The chain: a visit of an event that exists
  visit_alike : (f d e o : ℕ) → e < t.events → visit t m f d e o ≡ visit u n f d e o
  unfolding visit
  visit_alike zero d e o b = refl
  visit_alike (suc f) d e o b =
      rw (event_alike e b)
      (ap (cond (has o e || not (record_of n e).included) (nothing o))
      (along_agree a.tables.same_count _ _ (with_event o e)
      (λ k p c. step k p c (visit_alike f (suc d) (relation_of t k).right p (right_exists k c)))))
    where
      right_exists : (k : ℕ) → k < t.count → (relation_of t k).right < t.events
      right_exists k c = (a.table_good.relations_good k c).right_exists

      step : (k p : ℕ) → k < t.count → visit t m f (suc d) (relation_of t k).right p ≡ visit u n f (suc d) (relation_of t k).right p
          → cond (blocks t m e k) (led_to k d (visit t m f (suc d) (relation_of t k).right p)) (nothing p)
          ≡ cond (blocks u n e k) (led_to k d (visit u n f (suc d) (relation_of u k).right p)) (nothing p)
      step k p c below =
          rw (blocks_alike e k c)
          (ap (λ (v : Visit). cond (blocks u n e k) (led_to k d v) (nothing p))
          (below ∙ ap (λ (r : Relation). visit u n f (suc d) r.right p) (relation_alike k c)))

  pub chain_alike : (e : ℕ) → e < t.events → chain t m e ≡ chain u n e
  unfolding chain
  chain_alike e b = ap (λ (v : Visit). v.links) (visit_alike most_events 0 e 0 b)

  -- Closure
  busy_alike : (x : ℕ) → x < t.events → busy t m x ≡ busy u n x
  unfolding busy
  busy_alike x b =
      rw (event_alike x b)
      (ap (λ (asked : Bool). (record_of n x).pending && (record_of n x).bounded || asked)
      (some_agree a.tables.same_count _ _ (λ k c. rw (relation_alike k c))))

  pub closure_alike : closure t m ≡ closure u n
  unfolding closure
  closure_alike =
      fully_alike a.tables (λ k. followed (relation_of t k)) (λ k. followed (relation_of u k)) (λ k b. rw (relation_alike k b)) (set_of t.events (busy t m))
      ∙ ap (widened_fully u (λ k. followed (relation_of u k))) (set_agree a.tables.same_events _ _ busy_alike)

  -- The static check
  unreportable_alike : (e : ℕ) → e < t.events → unreportable t m e ≡ unreportable u n e
  unfolding unreportable
  unreportable_alike e b =
      rw (a.tables.same_controllable e b, event_alike e b)
      (ap (λ (bound : Bool). not (is_controllable u e) && (not (record_of n e).included || bound))
      (some_agree a.tables.same_count _ _ (λ k c. rw (relation_alike k c))))

  uncausable_alike : (closed e : ℕ) → e < t.events → uncausable t closed e ≡ uncausable u closed e
  unfolding uncausable
  uncausable_alike closed e b = rw (a.tables.same_causable e b)

  waiting_alike : (closed k : ℕ) → k < t.count → waiting t closed k ≡ waiting u closed k
  unfolding waiting
  waiting_alike closed k b = rw (relation_alike k b)

  on_cycle_alike : (closed e : ℕ) → on_cycle t closed e ≡ on_cycle u closed e
  unfolding on_cycle
  on_cycle_alike closed e = rw (awaited_alike a.tables e)

  reopening_alike : (closed k : ℕ) → k < t.count → reopening t closed k ≡ reopening u closed k
  unfolding reopening
  reopening_alike closed k b =
      rw (relation_alike k b)
      (ap (λ (reopened : Bool). is_response (relation_of u k) && has closed (relation_of u k).left && reopened)
      (some_agree a.tables.same_count _ _ (λ j c. rw (relation_alike j c))))

  reviving_alike : (closed k : ℕ) → k < t.count → reviving t closed k ≡ reviving u closed k
  unfolding reviving
  reviving_alike closed k b = rw (relation_alike k b)

  pub verdict_alike : verdict t m ≡ verdict u n
  unfolding verdict
  verdict_alike =
      rw closure_alike
      (of_event 1 _ _ unreportable_alike
      (of_event 2 _ _ (uncausable_alike closed)
      (of_relation 3 _ _ (waiting_alike closed)
      (of_event 4 _ _ (λ e b. on_cycle_alike closed e)
      (of_relation 5 _ _ (reopening_alike closed)
      (of_relation 6 _ _ (reviving_alike closed)
      refl))))))
    where
      closed : ℕ
      closed = closure u n

      of_event : (number : ℕ) (f g : ℕ → Bool) → ((e : ℕ) → e < t.events → f e ≡ g e) → {p q : CheckAnswer} → p ≡ q
          → reason number t.events f p ≡ reason number u.events g q
      of_event number f g h next = rw (lowest_agree a.tables.same_events f g h, a.tables.same_events, next)

      of_relation : (number : ℕ) (f g : ℕ → Bool) → ((k : ℕ) → k < t.count → f k ≡ g k) → {p q : CheckAnswer} → p ≡ q
          → reason number t.count f p ≡ reason number u.count g q
      of_relation number f g h next = rw (lowest_agree a.tables.same_count f g h, a.tables.same_count, next)

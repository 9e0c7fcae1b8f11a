-- What is done in turn on tables and markings that agree on the places in use: the guarded tick, the offered remedies and a trace say the same of
-- both and lead to markings that agree. Assumes nothing.
use Rattle.std.specs.Prelude.{◌≡◌, Bool, cond, eqb, leb, length, take}
use Rattle.std.proofs.Math.Path.{refl, ap, ap₂}
use Rattle.std.proofs.Common.{◌∙◌, ltb-true}
use Rattle.std.proofs.Math.Bool.{true, false, not, ◌&&◌}
use mathlib.Core.List.{List, [], ◌∷◌, ◌++◌, map}
use Prim.Native.Nat.{ℕ, zero, suc, ◌<◌, ◌-◌, ◌^◌}
use Rattle.std.proofs.Math.Dec.{ltb}
use Rattle.rules.specs.declared.Table.{Table}
use Rattle.rules.specs.declared.Record.{Record}
use Rattle.rules.specs.declared.Marking.{Marking}
use Rattle.rules.specs.declared.Step.{Step}
use Rattle.rules.specs.Counting.{lowest, repeated}
use Rattle.rules.specs.Numbers.{◌else◌}
use Rattle.rules.specs.EventSet.{has}
use Rattle.rules.specs.Holds.{is_causable, relation_of, record_of}
use Rattle.rules.specs.Judge.{event_number}
use Rattle.rules.specs.Enabled.{is_enabled}
use Rattle.rules.specs.Effect.{effect}
use Rattle.rules.specs.Time.{due_set, plain_tick_number}
use Rattle.rules.specs.Happen.{happen_number}
use Rattle.rules.specs.Closure.{followed, widened_fully}
use Rattle.rules.specs.Guard.{holds_back, needed, ready, order_of, order, goes_ahead, taken, taken_all, executed_of, caused, guarded}
use Rattle.rules.specs.Remedy.{in_turn, effects, discharges, shortest, remedy_number}
use Rattle.rules.specs.Sleep.{slept, Entry, entry, slept_caused}
use Rattle.rules.specs.Trace.{last_happen_kind, plain_tick_kind, step_number, step_done, stepped, end_of, answers_of}
use Rattle.rules.specs.Unused.{SameTable}
use Rattle.rules.proofs.Laws.Counting.{lowest_same}
use Rattle.rules.proofs.Laws.Granted.{event_exists}
use Rattle.rules.specs.Shapes.Tried.{may_cause}
use Rattle.rules.proofs.Laws.UnusedRules.{some_agree, lowest_agree, follows_alike, fully_alike, any_due_alike, due_set_alike}
use Rattle.rules.proofs.Laws.UnusedRules.{Agree, after_effect, after_time, event_alike, right_alike, enabled_alike, verdict_alike}

-- a number given first, and what is asked only where it is 'done'
pub else_alike : (i j a b : ℕ) → i ≡ j → (i ≡ 0 → a ≡ b) → (i else a) ≡ (j else b)
else_alike zero j a b p q = rw (← p, q refl)
else_alike (suc i) j a b p q = rw (← p)

-- The order of taking: each of its events exists
data Below (n : ℕ) : List ℕ → Type 0 where
  none : Below n []
  one : {e : ℕ} {rest : List ℕ} → e < n → Below n rest → Below n (e ∷ rest)

order_below : (t : Table) (n untaken : ℕ) → Below t.events (order_of t n untaken)
unfolding order_of
order_below t zero untaken = none
order_below t (suc n) untaken = go (lowest t.events (ready t untaken)) (order_below t n _)
  where
    go : (e : ℕ) {rest : List ℕ} → Below t.events rest → Below t.events (cond (ltb e t.events) (e ∷ rest) [])
    go e {rest = rest} below = at (ltb e t.events) refl
      where
        at : (b : Bool) → ltb e t.events ≡ b → Below t.events (cond b (e ∷ rest) [])
        at true p = one (ltb-true e t.events p) below
        at false p = none

module _ {t u : Table} (same : SameTable t u) where
  ready_alike : (untaken e : ℕ) → ready t untaken e ≡ ready u untaken e
  unfolding ready
  ready_alike untaken e =
      ap (λ (waits : Bool). has untaken e && not waits)
      (some_agree same.same_events _ _ (λ f b. rw (follows_alike same e f)))

  order_of_alike : (n untaken : ℕ) → order_of t n untaken ≡ order_of u n untaken
  unfolding order_of
  order_of_alike zero untaken = refl
  order_of_alike (suc n) untaken =
      rw (
        lowest_agree same.same_events (ready t untaken) (ready u untaken) (λ e b. ready_alike untaken e),
        order_of_alike n (untaken - 2 ^ lowest u.events (ready u untaken)),
        same.same_events,
      )

module _ {t u : Table} {m n : Marking} (a : Agree t u m n) where
  needed_alike : needed t m ≡ needed u n
  unfolding needed
  needed_alike =
      fully_alike a.tables (λ k. followed (relation_of t k) && holds_back (relation_of t k) (record_of m (relation_of t k).right))
      (λ k. followed (relation_of u k) && holds_back (relation_of u k) (record_of n (relation_of u k).right))
      (λ k b. rw (right_alike a k b, a.tables.same_relation k b))
      (due_set m)
      ∙ ap (widened_fully u (λ k. followed (relation_of u k) && holds_back (relation_of u k) (record_of n (relation_of u k).right))) (due_set_alike a.markings)

  order_alike : order t m ≡ order u n
  order_alike = order_of_alike a.tables t.events (needed t m) ∙ ap₂ (order_of u) a.tables.same_events needed_alike

  goes_ahead_alike : (e : ℕ) → e < t.events → goes_ahead t m e ≡ goes_ahead u n e
  goes_ahead_alike e b = ap (λ (r : Record). r.included) (event_alike a e b)

-- one of two markings, by a test
chosen : {t u : Table} (test : Bool) {m n k l : Marking} → Agree t u m n → Agree t u k l → Agree t u (cond test m k) (cond test n l)
chosen true p q = p
chosen false p q = q

-- Taking
module _ {t u : Table} where
  after_taken : {m n : Marking} → Agree t u m n → (e : ℕ) → e < t.events → Agree t u (taken t m e) (taken u n e)
  unfolding taken
  after_taken {m = m} {n = n} a e b = rw (goes_ahead_alike a e b) (chosen (goes_ahead u n e) (after_effect a e) a)

  after_taken_all : {m n : Marking} → Agree t u m n → (es : List ℕ) → Below t.events es → Agree t u (taken_all t m es) (taken_all u n es)
  unfolding taken_all
  after_taken_all a [] none = a
  after_taken_all {m = m} {n = n} a (e ∷ es) (one b below) =
      after_taken_all {m = taken t m e} {n = taken u n e} (after_taken a e b) es below

  executed_alike : {m n : Marking} → Agree t u m n → (es : List ℕ) → Below t.events es → executed_of t m es ≡ executed_of u n es
  unfolding executed_of
  executed_alike a [] none = refl
  executed_alike {m = m} {n = n} a (e ∷ es) (one b below) =
      rw (goes_ahead_alike a e b, executed_alike {m = taken t m e} {n = taken u n e} (after_taken a e b) es below)

  pub caused_alike : {m n : Marking} → Agree t u m n → caused t m ≡ caused u n
  unfolding caused
  caused_alike {m = m} {n = n} a = executed_alike a (order t m) (order_below t t.events (needed t m)) ∙ ap (executed_of u n) (order_alike a)

  pub after_guarded : {m n : Marking} → Agree t u m n → Agree t u (guarded t m) (guarded u n)
  unfolding guarded
  after_guarded {m = m} {n = n} a =
      after_time (rw (← order_alike a) (after_taken_all a (order t m) (order_below t t.events (needed t m))))

  -- one after the other
  pub after_sleep : {m n : Marking} → Agree t u m n → (ticks : ℕ) → Agree t u (slept t m ticks) (slept u n ticks)
  unfolding slept repeated
  after_sleep a zero = a
  after_sleep a (suc ticks) = after_guarded (after_sleep a ticks)

  pub slept_caused_alike : {m n : Marking} → Agree t u m n → (ticks : ℕ) → slept_caused t m ticks ≡ slept_caused u n ticks
  unfolding slept_caused
  slept_caused_alike a zero = refl
  slept_caused_alike a (suc ticks) =
      ap₂ (λ (before : List Entry) (here : List ℕ). before ++ map (entry (suc ticks)) here) (slept_caused_alike a ticks)
      (caused_alike (after_sleep a ticks))

-- The offered remedies
module _ {t u : Table} where
  may_cause_alike : {m n : Marking} → Agree t u m n → (e : ℕ) → may_cause t m e ≡ may_cause u n e
  unfolding may_cause
  may_cause_alike {m = m} {n = n} a e =
      go (ltb e t.events) refl ∙ ap (λ (events : ℕ). ltb e events && is_causable u e && is_enabled u n e) a.tables.same_events
    where
      go : (exists : Bool) → ltb e t.events ≡ exists → exists && is_causable t e && is_enabled t m e ≡ exists && is_causable u e && is_enabled u n e
      go true h = rw (a.tables.same_causable e (ltb-true e t.events h), enabled_alike a e (ltb-true e t.events h))
      go false h = refl

  in_turn_alike : {m n : Marking} → Agree t u m n → (es : List ℕ) → in_turn t m es ≡ in_turn u n es
  unfolding in_turn may_cause
  in_turn_alike a [] = refl
  in_turn_alike {m = m} {n = n} a (e ∷ es) =
      ap₂ ◌&&◌ (may_cause_alike a e) (in_turn_alike {m = effect t m e} {n = effect u n e} (after_effect a e) es)

  after_effects : {m n : Marking} → Agree t u m n → (es : List ℕ) → Agree t u (effects t m es) (effects u n es)
  unfolding effects
  after_effects a [] = a
  after_effects {m = m} {n = n} a (e ∷ es) = after_effects {m = effect t m e} {n = effect u n e} (after_effect a e) es

  discharges_alike : {m n : Marking} → Agree t u m n → (es : List ℕ) → discharges t m es ≡ discharges u n es
  unfolding discharges
  discharges_alike a es = rw (in_turn_alike a es, any_due_alike (after_effects a es).markings)

  pub shortest_alike : {m n : Marking} → Agree t u m n → (list : List ℕ) → shortest t m list ≡ shortest u n list
  unfolding shortest
  shortest_alike a list = lowest_same _ _ (suc (length list)) (λ i b. discharges_alike a (take i list))

  pub remedy_number_alike : {m n : Marking} → Agree t u m n → (preferred fallback : List ℕ)
      → remedy_number t m preferred fallback ≡ remedy_number u n preferred fallback
  unfolding remedy_number
  remedy_number_alike a preferred fallback = rw (shortest_alike a preferred, shortest_alike a fallback)

-- A trace
module _ {t u : Table} {m n : Marking} (a : Agree t u m n) where
  event_number_alike : (e : ℕ) → event_number t e ≡ event_number u e
  event_number_alike e = rw a.tables.same_events

  pub happen_alike : (e : ℕ) → happen_number t m e ≡ happen_number u n e
  unfolding happen_number
  happen_alike e =
      else_alike (event_number t e) (event_number u e) _ _ (event_number_alike e) (λ h. rw (enabled_alike a e (event_exists t e h)))

  pub plain_tick_alike : plain_tick_number m ≡ plain_tick_number n
  unfolding plain_tick_number
  plain_tick_alike = rw (any_due_alike a.markings)

  step_alike : (s : Step) → step_number t m s ≡ step_number u n s
  unfolding step_number
  step_alike s = rw (happen_alike s.event, plain_tick_alike, verdict_alike a)

  after_step : (s : Step) → Agree t u (stepped t m s) (stepped u n s)
  unfolding stepped step_done
  after_step s =
      rw (step_alike s)
      (chosen (eqb (step_number u n s) 0)
      (chosen (leb s.kind last_happen_kind) (after_effect a s.event) (chosen (eqb s.kind plain_tick_kind) (after_time a) (after_guarded a)))
      a)

module _ {t u : Table} where
  pub after_trace : {m n : Marking} → Agree t u m n → (steps : List Step) → Agree t u (end_of t m steps) (end_of u n steps)
  unfolding end_of
  after_trace a [] = a
  after_trace {m = m} {n = n} a (s ∷ rest) = after_trace {m = stepped t m s} {n = stepped u n s} (after_step a s) rest

  pub answers_alike : {m n : Marking} → Agree t u m n → (steps : List Step) → answers_of t m steps ≡ answers_of u n steps
  unfolding answers_of
  answers_alike a [] = refl
  answers_alike {m = m} {n = n} a (s ∷ rest) =
      ap₂ ◌∷◌ (step_alike a s) (answers_alike {m = stepped t m s} {n = stepped u n s} (after_step a s) rest)

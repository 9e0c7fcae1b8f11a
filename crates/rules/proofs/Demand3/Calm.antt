-- Deadlines along a history. No event is due where time passes; so an event under a deadline of d ticks, whose deadline nothing settles, is
-- d - j ticks from it after j passes, and a (d + 1)th pass cannot come. Assumes nothing.
use Rattle.std.specs.Prelude.{◌≡◌, Bool, cond, ◌⊎◌, ℕ, ◌<◌, ◌≤◌, ◌-◌, leb}
use Rattle.std.proofs.Math.Path.{refl}
use Rattle.std.proofs.Common.{◌∙◌, ap, sym, subst, inl, inr, arith, eqb-true, eq-eqb, leb-true}
use Rattle.std.proofs.Math.Bool.{true, false}
use mathlib.Core.List.{List, [], ◌∷◌, ◌++◌}
use Rattle.std.proofs.Math.Logic.{⊎_elim}
use Rattle.std.proofs.Math.Dec.{eqb}
use Rattle.std.proofs.lemmas.Bool.{eqb-false}
use Rattle.rules.specs.declared.Table.{Table}
use Rattle.rules.specs.declared.Record.{Record}
use Rattle.rules.specs.declared.Marking.{Marking}
use Rattle.rules.specs.declared.Step.{Step}
use Rattle.rules.specs.Numbers.{◌if◌}
use Rattle.rules.specs.Holds.{record_of}
use Rattle.rules.specs.Effect.{within, eventually, none, deadline_of, is_pending, response, effect}
use Rattle.rules.specs.Time.{is_due, any_due, time, plain_tick_number}
use Rattle.rules.specs.Guard.{caused}
use Rattle.rules.specs.Remedy.{effects}
use Rattle.rules.specs.Trace.{last_happen_kind, plain_tick_kind, wrong_step, step_number, stepped}
use Rattle.rules.specs.History.{Act, executes, passes, after, passes_in, then_pass, acts_of, history_of}
use Rattle.rules.specs.Deadline.{Duty, no_later, Ends, executed, excluded, Settles, ended, given_new, Met}
use Rattle.rules.proofs.Laws.Tests.{decide, clash, join}
use Rattle.rules.proofs.Laws.Counting.{some_not}
use Rattle.rules.proofs.Laws.Numbers.{both_done, if_done}
use Rattle.rules.proofs.Demand3.Records.{due_is}
use Rattle.rules.proofs.Demand3.Facts.{effect_events, time_events, deadline_stays, deadline_no_later}
use Rattle.rules.proofs.Demand3.Facts.{time_pending, time_bounded, time_included, time_deadline}
use Rattle.rules.proofs.Demand3.Invariant.{Static, Invariant, effect_keeps, time_keeps}
use Rattle.rules.proofs.Demand3.Guarded.{caused_calm}
use Rattle.rules.proofs.Demand3.Leading.{after_acts}

-- no event is due where time passes
pub data Calm (t : Table) : Marking → List Act → Type 0 where
  ends : {m : Marking} → Calm t m []
  executing : {m : Marking} {e : ℕ} {rest : List Act} → Calm t (effect t m e) rest → Calm t m (executes e ∷ rest)
  passing : {m : Marking} {rest : List Act} → any_due m ≡ false → Calm t (time m) rest → Calm t m (passes ∷ rest)

module _ (t : Table) where
  calm_join : {m : Marking} {a : List Act} (b : List Act) → Calm t m a → Calm t (after t m a) b → Calm t m (a ++ b)
  unfolding after
  calm_join b ends d = d
  calm_join b (executing c) d = executing (calm_join b c d)
  calm_join b (passing q c) d = passing q (calm_join b c d)

  pub calm_rest : (m : Marking) (a b : List Act) → Calm t m (a ++ b) → Calm t (after t m a) b
  unfolding after
  calm_rest m [] b c = c
  calm_rest m (executes e ∷ a) b (executing c) = calm_rest (effect t m e) a b c
  calm_rest m (passes ∷ a) b (passing q c) = calm_rest (time m) a b c

  calm_then_pass : (m : Marking) (l : List ℕ) → any_due (effects t m l) ≡ false → Calm t m (then_pass l)
  unfolding then_pass effects
  calm_then_pass m [] h = passing h ends
  calm_then_pass m (e ∷ l) h = executing (calm_then_pass (effect t m e) l h)

-- a plain tick that is done found no event due
tick_quiet : (t : Table) (m : Marking) (s : Step) → step_number t m s ≡ 0 → s.kind ≡ plain_tick_kind → any_due m ≡ false
unfolding step_number plain_tick_number
tick_quiet t m s h q =
    let p = both_done (15 if wrong_step s.kind s.event) _ h in
    if_done 10 (any_due m) (rw q at p.1)

-- Along any acts the invariant is kept, and the acts of a step let time pass only where no event is due
module _ (t : Table) (X : ℕ) (st : Static t X) where
  pub kept : (m : Marking) → Invariant t X m → (acts : List Act) → Invariant t X (after t m acts)
  unfolding after
  kept m v [] = v
  kept m v (executes e ∷ rest) = kept (effect t m e) (effect_keeps t X st m v e) rest
  kept m v (passes ∷ rest) = kept (time m) (time_keeps t X st m v) rest

  step_calm : (m : Marking) → Invariant t X m → (s : Step) → Calm t m (acts_of t m s)
  unfolding acts_of
  step_calm m v s = go (eqb (step_number t m s) 0) (leb s.kind last_happen_kind) (eqb s.kind plain_tick_kind) refl refl
    where
      go : (d a p : Bool) → eqb (step_number t m s) 0 ≡ d → eqb s.kind plain_tick_kind ≡ p
          → Calm t m (cond d (cond a (executes s.event ∷ []) (cond p (passes ∷ []) (then_pass (caused t m)))) [])
      go true true p e k = executing ends
      go true false true e k = passing (tick_quiet t m s (eqb-true (step_number t m s) 0 e) (eqb-true s.kind plain_tick_kind k)) ends
      go true false false e k = calm_then_pass t m (caused t m) (caused_calm t X st m v)
      go false a p e k = ends

  pub history_calm : (m : Marking) → Invariant t X m → (steps : List Step) → Calm t m (history_of t m steps)
  unfolding history_of
  history_calm m v [] = ends
  history_calm m v (s ∷ rest) =
      calm_join t (history_of t (stepped t m s) rest) (step_calm m v s)
      (subst (λ (n : Marking). Calm t n (history_of t (stepped t m s) rest)) (sym (after_acts t m s))
      (history_calm (stepped t m s) (subst (Invariant t X) (after_acts t m s) (kept m v (acts_of t m s))) rest))

-- Over what settles a deadline: an execution settles it, or leaves the duty as it is
module _ (t : Table) (x : ℕ) (b : x < t.events) (Settled : Marking → ℕ → Type 0)
    (settled_or_stays : (m : Marking) (e d : ℕ) → m.events ≡ t.events → Duty m x d → Settled m e ⊎ Duty (effect t m e) x d)
  where
    here : {n : ℕ} → n ≡ t.events → x < n
    here same = subst (λ (n : ℕ). x < n) (sym same) b

    -- a pass of time brings it one tick nearer ..
    nearer : (m : Marking) → m.events ≡ t.events → (d : ℕ) → Duty m x d → Duty (time m) x (d - 1)
    nearer m same d duty =
        record {
          included = time_included m x (here same) ∙ duty.included;
          pending = time_pending m x (here same) ∙ duty.pending;
          bounded = time_bounded m x (here same) ∙ duty.bounded;
          within = omega (arith, time_deadline m x (here same) duty.bounded, duty.within);
        }

    -- .. and where none is due, some tick is left
    not_zero : (m : Marking) → m.events ≡ t.events → (d : ℕ) → Duty m x d → any_due m ≡ false → d ≡ 0 → ⊥
    unfolding any_due
    not_zero m same d duty quiet z =
        let none_left : (record_of m x).deadline ≡ 0 = omega (arith, duty.within, z) in
        clash
        (due_is (record_of m x) duty.included (join duty.pending (join duty.bounded (eq-eqb (record_of m x).deadline 0 none_left))))
        (some_not (λ e. is_due (record_of m e)) m.events x quiet (here same))

    pub deadline_met : {m : Marking} {acts : List Act} → Calm t m acts → m.events ≡ t.events → (d : ℕ) → Duty m x d → d < passes_in acts
        → Met t Settled m d acts
    unfolding after passes_in
    deadline_met ends same d duty l = absurd (omega arith)
    deadline_met (executing {m} {e} {rest} c) same d duty l =
        ⊎_elim now (λ stays. then (deadline_met c (effect_events t m e ∙ same) d stays l)) (settled_or_stays m e d same duty)
      where
        now : Settled m e → Met t Settled m d (executes e ∷ rest)
        now s = record { before = []; event = e; behind = rest; among = refl; in_time = omega arith; settles = s }

        then : Met t Settled (effect t m e) d rest → Met t Settled m d (executes e ∷ rest)
        then w =
            record {
              before = executes e ∷ w.before;
              event = w.event;
              behind = w.behind;
              among = ap (λ (l : List Act). executes e ∷ l) w.among;
              in_time = w.in_time;
              settles = w.settles;
            }
    deadline_met (passing {m} {rest} quiet c) same d duty l =
        let some_left = not_zero m same d duty quiet in
        then some_left (deadline_met c (time_events m ∙ same) (d - 1) (nearer m same d duty) (omega (arith, l, some_left)))
      where
        then : (d ≡ 0 → ⊥) → Met t Settled (time m) (d - 1) rest → Met t Settled m d (passes ∷ rest)
        then left w =
            record {
              before = passes ∷ w.before;
              event = w.event;
              behind = w.behind;
              among = ap (λ (l : List Act). passes ∷ l) w.among;
              in_time = omega (arith, w.in_time, left);
              settles = w.settles;
            }

-- a record whose deadline is no later than one of so many ticks has a deadline too, of no more
no_later_bounded : (r : Record) (d : ℕ) → no_later (deadline_of r) (within d) ≡ true → (r.pending ≡ true) × (r.bounded ≡ true) × (r.deadline ≤ d)
no_later_bounded r d = go r.pending r.bounded
  where
    go : (p b : Bool) → no_later (cond p (cond b (within r.deadline) eventually) none) (within d) ≡ true → (p ≡ true) × (b ≡ true) × (r.deadline ≤ d)
    go true true h = (refl, refl, leb-true r.deadline d h)
    go true false h = absurd (clash h refl)
    go false b h = absurd (clash h refl)

-- Over the choice of the rule: what is not executed, nor left excluded, nor given a new deadline in a table that is not firm, stays a duty within
-- the same ticks. With no response it stays as it is, and in a firm table a response leaves it no later.
pub settled_or_stays : (t : Table) (x : ℕ) → x < t.events → (m : Marking) (e d : ℕ) → m.events ≡ t.events → Duty m x d
    → Settles t x m e ⊎ Duty (effect t m e) x d
settled_or_stays t x b m e d same duty =
    go (decide (eqb x e)) (decide (record_of (effect t m e) x).included) (decide t.firm) (decide (is_pending (response t e x)))
  where
    here : x < m.events
    here = subst (λ (n : ℕ). x < n) (sym same) b

    stays : (x ≡ e → ⊥) → is_pending (response t e x) ≡ false → (record_of (effect t m e) x).included ≡ true → Duty (effect t m e) x d
    stays other unasked still =
        let p = deadline_stays t m e x here other unasked in
        record { included = still; pending = p.0 ∙ duty.pending; bounded = p.1 ∙ duty.bounded; within = omega (arith, p.2, duty.within) }

    nearer : t.firm ≡ true → (x ≡ e → ⊥) → (record_of (effect t m e) x).included ≡ true → Duty (effect t m e) x d
    nearer firm other still =
        let out = deadline_no_later t m e x here firm other duty.pending in
        let p = no_later_bounded (record_of (effect t m e) x) (record_of m x).deadline (rw (duty.pending, duty.bounded) at out) in
        record { included = still; pending = p.0; bounded = p.1; within = omega (arith, p.2, duty.within) }

    go : (eqb x e ≡ true) ⊎ (eqb x e ≡ false) → ((record_of (effect t m e) x).included ≡ true) ⊎ ((record_of (effect t m e) x).included ≡ false)
        → (t.firm ≡ true) ⊎ (t.firm ≡ false) → (is_pending (response t e x) ≡ true) ⊎ (is_pending (response t e x) ≡ false)
        → Settles t x m e ⊎ Duty (effect t m e) x d
    go (inl p) r f q = inl (ended (executed (eqb-true x e p)))
    go (inr p) (inr r) f q = inl (ended (excluded r))
    go (inr p) (inl r) (inl f) q = inr (nearer f (eqb-false x e p) r)
    go (inr p) (inl r) (inr f) (inl q) = inl (given_new f q)
    go (inr p) (inl r) (inr f) (inr q) = inr (stays (eqb-false x e p) q r)

-- in a firm table nothing else settles a deadline than what ends the duty
firm_ends : (t : Table) (x : ℕ) → t.firm ≡ true → (m : Marking) (e : ℕ) → Settles t x m e → Ends t x m e
firm_ends t x firm m e (ended h) = h
firm_ends t x firm m e (given_new loose h) = absurd (clash firm loose)

pub firm_met : {t : Table} {x : ℕ} → t.firm ≡ true → {m : Marking} {d : ℕ} {acts : List Act} → Met t (Settles t x) m d acts → Met t (Ends t x) m d acts
firm_met {t = t} {x = x} firm {m = m} w =
    record {
      before = w.before;
      event = w.event;
      behind = w.behind;
      among = w.among;
      in_time = w.in_time;
      settles = firm_ends t x firm (after t m w.before) w.event w.settles;
    }

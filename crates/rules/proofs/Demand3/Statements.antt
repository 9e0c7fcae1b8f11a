-- Demand 3. Over every table and marking that the check accepts, and every list of steps from there: events that happen, plain ticks and
-- guarded ticks, granted or refused, with any event numbers and of any kind. Each statement is a reading of one invariant. Assumes nothing.
use Rattle.std.specs.Prelude.{◌≡◌, true, false, List, ◌++◌, ℕ, ◌<◌}
use Rattle.std.proofs.Common.{subst}
use borrow.Author.Tests.{lt-ltb}
use Rattle.rules.specs.declared.Table.{Table}
use Rattle.rules.specs.declared.Marking.{Marking}
use Rattle.rules.specs.declared.Step.{Step}
use Rattle.rules.specs.CheckAnswer.{Accepts}
use Rattle.rules.specs.EventSet.{has}
use Rattle.rules.specs.Holds.{is_controllable, record_of}
use Rattle.rules.specs.Effect.{deadline_of, effect}
use Rattle.rules.specs.Happen.{happen_number, happen}
use Rattle.rules.specs.Closure.{closure}
use Rattle.rules.specs.Check.{check}
use Rattle.rules.specs.Guard.{guarded_tick}
use Rattle.rules.specs.Trace.{end_of}
use Rattle.rules.specs.Promised.{Promise}
use Rattle.rules.specs.History.{Act, after, passes_in, history_of}
use Rattle.rules.specs.Deadline.{Duty, no_later, Ends, Settles, Met}
use Rattle.rules.proofs.Laws.Judge.{good}
use Rattle.rules.proofs.Demand3.Facts.{deadline_no_later}
use Rattle.rules.proofs.Demand3.Invariant.{Static, Invariant, always_enabled}
use Rattle.rules.proofs.Demand3.Accepts.{closure_static, closure_invariant, closure_least, suffices, check_parts, check_accepts}
use Rattle.rules.proofs.Demand3.Leading.{after_history}
use Rattle.rules.proofs.Demand3.Calm.{Calm, calm_rest, kept, history_calm, deadline_met, settled_or_stays, firm_met}
use Rattle.rules.proofs.Demand3.Keeping.{promised}

module _ (t : Table) (m : Marking) (accepted : check t m ≡ Accepts) where
  -- one set, and one invariant
  static : Static t (closure t m)
  static = let p = check_parts t m accepted in closure_static t m p.0 p.1

  start : Invariant t (closure t m) m
  start = let p = check_parts t m accepted in closure_invariant t m p.0 p.1

  invariant : (steps : List Step) → Invariant t (closure t m) (end_of t m steps)
  invariant steps = subst (Invariant t (closure t m)) (after_history t m steps) (kept t (closure t m) static m start (history_of t m steps))

  -- 1. The check still accepts after any steps ..
  pub still_accepts : (steps : List Step) → check t (end_of t m steps) ≡ Accepts
  still_accepts steps =
      let v = invariant steps in
      check_accepts t (end_of t m steps) v.judged_done (suffices t (closure t m) static (end_of t m steps) v)

  -- .. and the next guarded tick is not refused.
  pub never_refused : (steps : List Step) → (guarded_tick t (end_of t m steps)).number ≡ 0
  never_refused steps = (promised t (end_of t m steps) (still_accepts steps)).not_refused

  -- 2. That guarded tick keeps its promise: nothing when nothing is due, else only causable members of the closure, each enabled when it is
  -- executed, each at most once, and no event due when time then passes.
  pub guarded_tick_lem : (steps : List Step) → Promise t (end_of t m steps)
  guarded_tick_lem steps = promised t (end_of t m steps) (still_accepts steps)

  -- 3. An included event that is to be done within d ticks, at any point of the history, is executed, excluded or, in a table that is not firm,
  -- given a new deadline before the (d + 1)th pass of time from then.
  pub deadline_kept : (steps : List Step) (before rest : List Act) → history_of t m steps ≡ before ++ rest
      → (x d : ℕ) → x < t.events → Duty (after t m before) x d → d < passes_in rest → Met t (Settles t x) (after t m before) d rest
  deadline_kept steps before rest split x d b duty l =
      let calm = calm_rest t m before rest (subst (Calm t m) split (history_calm t (closure t m) static m start steps)) in
      let same = (good t (after t m before) (kept t (closure t m) static m start before).judged_done).marking_good.same_events in
      deadline_met t x b (Settles t x) (settled_or_stays t x b) calm same d duty l

  -- In a firm table: it is executed or excluded before then.
  pub deadline_kept_firm : t.firm ≡ true → (steps : List Step) (before rest : List Act) → history_of t m steps ≡ before ++ rest
      → (x d : ℕ) → x < t.events → Duty (after t m before) x d → d < passes_in rest → Met t (Ends t x) (after t m before) d rest
  deadline_kept_firm firm steps before rest split x d b duty l = firm_met firm (deadline_kept steps before rest split x d b duty l)

  -- 4. Beyond the demand. An uncontrollable event that happens is always done ..
  pub always_done : (steps : List Step) (e : ℕ) → e < t.events → is_controllable t e ≡ false → (happen t (end_of t m steps) e).number ≡ 0
  unfolding happen happen_number
  always_done steps e b h =
      let v = invariant steps in
      rw (v.judged_done, lt-ltb e t.events b, always_enabled t (closure t m) static (end_of t m steps) v e b h)

  -- .. and the closure never grows, whatever is executed and whenever time passes.
  pub closure_never_grows : (acts : List Act) (x : ℕ) → has (closure t (after t m acts)) x ≡ true → has (closure t m) x ≡ true
  closure_never_grows acts = closure_least t (closure t m) static (after t m acts) (kept t (closure t m) static m start acts)

-- In a firm table no execution of another event moves a pending deadline out, at any marking, asked of the check or not; the event may be included or
-- not, and so may the other be enabled or not.
pub firm_never_later : (t : Table) → t.firm ≡ true → (m : Marking) (e x : ℕ) → x < m.events → (x ≡ e → ⊥) → (record_of m x).pending ≡ true
    → no_later (deadline_of (record_of (effect t m e) x)) (deadline_of (record_of m x)) ≡ true
firm_never_later t firm m e x b other h = deadline_no_later t m e x b firm other h

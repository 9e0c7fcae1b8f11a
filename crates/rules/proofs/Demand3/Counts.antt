-- How often each event was done. It stands beside demand 3: no check is asked but by the last statement. An event is any that the marking has,
-- and its count any number that 32 bits hold; of the table and the marking nothing else is asked. Assumes nothing.
use Rattle.std.specs.Prelude.{◌≡◌, Bool, eqb}
use Rattle.std.proofs.Math.Path.{refl, ap, sym, subst}
use Rattle.std.proofs.Common.{◌∙◌, ⊎_elim, eqb-true}
use Rattle.std.proofs.Math.Bool.{true, false, cond}
use mathlib.Core.List.{List, [], ◌∷◌, ◌++◌}
use Prim.Native.Nat.{ℕ, suc, ◌<◌, ◌≤◌, ◌+◌, min}
use native.Mathlib.Omega.{arith}
use Rattle.std.proofs.Math.ListN.{length}
use Rattle.std.proofs.lemmas.Bool.{eqb-false}
use Rattle.rules.specs.declared.Table.{Table}
use Rattle.rules.specs.declared.Marking.{Marking}
use Rattle.rules.specs.declared.Step.{Step}
use Rattle.rules.specs.Answers.{MarkingAnswer}
use Rattle.rules.specs.CheckAnswer.{Accepts}
use Rattle.rules.specs.Counting.{times}
use Rattle.rules.specs.Numbers.{done}
use Rattle.rules.specs.Holds.{count_limit, record_of}
use Rattle.rules.specs.Judge.{judged}
use Rattle.rules.specs.Effect.{effect}
use Rattle.rules.specs.Time.{time}
use Rattle.rules.specs.Check.{check}
use Rattle.rules.specs.Guard.{order, goes_ahead, taken_all, caused, guarded, guarded_tick}
use Rattle.rules.specs.Trace.{end_of, run_number, run, steps_in, bytes_number, run_bytes}
use Rattle.rules.specs.History.{Act, after, executions_of, then_pass, history_of}
use Rattle.rules.specs.Calls.{Calls, none, happened, ticked, guardedly, ran, ran_bytes, offered, acts_in}
use Rattle.rules.proofs.Laws.Tests.{decide}
use Rattle.rules.proofs.Laws.Judge.{good}
use Rattle.rules.proofs.Laws.Fit.{fits_parts, count_small}
use Rattle.rules.proofs.Laws.Taken.{taken_append, taken_out}
use Rattle.rules.proofs.Demand3.Facts.{effect_events, time_events, count_stays, count_own, time_count}
use Rattle.rules.proofs.Demand3.Accepts.{check_parts}
use Rattle.rules.proofs.Demand3.Keeping.{listed_once, promised}
use Rattle.rules.proofs.Demand3.Leading.{after_history}
use Rattle.rules.proofs.Demand3.Runs.{Runs, ends, executing, passing, history_runs, guarded_runs, calls_run}

-- one execution more, of the event or of another: the count is held, and n more may follow
held : (own : Bool) (count n : ℕ) → count ≤ count_limit
    → let grown = cond own (min (count + 1) count_limit) count in
    (grown ≤ count_limit) × (min (grown + n) count_limit ≡ min (count + cond own (suc n) n) count_limit)
held true count n small = (omega arith, omega arith)
held false count n small = (small, refl)

both_empty : {A : Type 0} (a b : List A) → a ++ b ≡ [] → (a ≡ []) × (b ≡ [])
both_empty [] b h = (refl, h)
both_empty (x ∷ a) b h = absurd (omega (arith, ap (λ (l : List _). length l) h))

module _ (t : Table) where
  -- an execution counts its own event, and no other
  counted : (m : Marking) (e x : ℕ) → x < m.events → (record_of m e).included ≡ true
      → (record_of (effect t m e) x).count ≡ cond (eqb x e) (min ((record_of m x).count + 1) count_limit) (record_of m x).count
  counted m e x b there =
      ⊎_elim
      (λ (p : eqb x e ≡ true). let same : x ≡ e = eqb-true x e p in rw (p, same) (count_own t m e (rw same at b) there))
      (λ (p : eqb x e ≡ false). rw p (count_stays t m e x b (eqb-false x e p)))
      (decide (eqb x e))

  -- along acts in which each event that is executed is included at its moment
  along : {m : Marking} {acts : List Act} → Runs t m acts → (x : ℕ) → x < m.events → (record_of m x).count ≤ count_limit
      → (record_of (after t m acts) x).count ≡ min ((record_of m x).count + executions_of x acts) count_limit
  unfolding after executions_of
  along ends x b small = omega arith
  along (executing {m} {e} {rest} there runs) x b small =
      let grown = counted m e x b there in
      let more = held (eqb x e) (record_of m x).count (executions_of x rest) small in
      along runs x (rw effect_events b) (rw grown more.0) ∙ ap (λ (n : ℕ). min (n + executions_of x rest) count_limit) grown ∙ more.1
  along (passing {m} {rest} runs) x b small =
      let same = time_count m x b in
      along runs x (rw time_events b) (rw same small) ∙ ap (λ (n : ℕ). min (n + executions_of x rest) count_limit) same

  -- each event of a judged table and marking is one of which the statements below speak
  pub judged_counts : (m : Marking) → judged t m ≡ 0 → (x : ℕ) → x < t.events → (x < m.events) × ((record_of m x).count ≤ count_limit)
  judged_counts m fine x b =
      let marking = (good t m fine).marking_good in
      (rw marking.same_events b, count_small (record_of m x) (fits_parts (record_of m x) (marking.records_fit x b)).1)

  -- Over any sequence of steps, a count is its start plus the executions of that event in the history, up to the hold.
  pub counts : (m : Marking) (steps : List Step) (x : ℕ) → x < m.events → (record_of m x).count ≤ count_limit
      → (record_of (end_of t m steps) x).count ≡ min ((record_of m x).count + executions_of x (history_of t m steps)) count_limit
  counts m steps x b small =
      ap (λ (n : Marking). (record_of n x).count) (sym (after_history t m steps)) ∙ along (history_runs t m steps) x b small

  -- The same over any chain of public calls, with lists offered among them: lists that were only tried add nothing.
  pub calls_count : {m end : Marking} {steps : List Step} (calls : Calls t m steps end) (x : ℕ) → x < m.events → (record_of m x).count ≤ count_limit
      → (record_of end x).count ≡ min ((record_of m x).count + executions_of x (acts_in calls)) count_limit
  calls_count calls x b small =
      let run = calls_run t calls in
      ap (λ (n : Marking). (record_of n x).count) (sym run.leads) ∙ along run.runs x b small

  -- a trace that is refused, or has no step, leaves the marking
  unmoved : (m : Marking) (number : ℕ) (played : List Step) → done number played [] ≡ [] → done number (end_of t m played) m ≡ m
  unfolding end_of
  unmoved m number played = go (eqb number 0)
    where
      go : (b : Bool) → cond b played [] ≡ [] → cond b (end_of t m played) m ≡ m
      go true h = ap (end_of t m) h
      go false h = refl

  stays : {m end : Marking} {steps : List Step} → Calls t m steps end → steps ≡ [] → end ≡ m
  unfolding run run_bytes
  stays none h = refl
  stays (happened e answer is rest) h = absurd (omega (arith, ap (λ (l : List Step). length l) h))
  stays (ticked answer is rest) h = absurd (omega (arith, ap (λ (l : List Step). length l) h))
  stays (guardedly answer is rest) h = absurd (omega (arith, ap (λ (l : List Step). length l) h))
  stays (ran {m} played room answer is rest) h =
      let p = both_empty (done answer.number played []) _ h in
      stays rest p.1
      ∙ subst (λ (a : MarkingAnswer). done a.number played [] ≡ [] → a.marking ≡ m) (sym is) (unmoved m (run_number t m played room) played) p.0
  stays (ran_bytes {m} bytes room answer is rest) h =
      let p = both_empty (done answer.number (steps_in bytes) []) _ h in
      stays rest p.1
      ∙ subst (λ (a : MarkingAnswer). done a.number (steps_in bytes) [] ≡ [] → a.marking ≡ m) (sym is)
      (unmoved m (bytes_number t m bytes room) (steps_in bytes)) p.0
  stays (offered preferred fallback answer is rest) h = stays rest h

  -- In a chain without a step lists are offered, any number of times (and traces are refused, or have no step). It leaves the marking, and so
  -- each count.
  pub offers_add_nothing : {m end : Marking} → Calls t m [] end → (x : ℕ) → (end ≡ m) × ((record_of end x).count ≡ (record_of m x).count)
  offers_add_nothing calls x = let same = stays calls refl in (same, ap (λ (n : Marking). (record_of n x).count) same)

  -- An event that a guarded tick takes and skips leaves the marking at its turn, and so each count: the tick is as if it were not taken.
  pub skipped_adds_nothing : (m : Marking) (before behind : List ℕ) (x : ℕ) → order t m ≡ before ++ (x ∷ behind)
      → goes_ahead t (taken_all t m before) x ≡ false
      → (taken_all t m (before ++ (x ∷ [])) ≡ taken_all t m before) × (guarded t m ≡ time (taken_all t m (before ++ behind)))
  unfolding guarded taken_all
  skipped_adds_nothing m before behind x split skipped =
      let out = taken_out t (taken_all t m before) x skipped in (
        taken_append t m before (x ∷ []) ∙ out,
        ap (λ (l : List ℕ). time (taken_all t m l)) split
            ∙ ap time
            (taken_append t m before (x ∷ behind) ∙ ap (λ (n : Marking). taken_all t n behind) out ∙ sym (taken_append t m before behind)),
      )

  -- a guarded tick executes each event as often as it causes it
  executions_then_pass : (x : ℕ) (l : List ℕ) → executions_of x (then_pass l) ≡ times x l
  unfolding executions_of then_pass times
  executions_then_pass x [] = refl
  executions_then_pass x (e ∷ l) = ap (λ (n : ℕ). cond (eqb x e) (suc n) n) (executions_then_pass x l)

  tick_counts : (m : Marking) (x : ℕ) → x < m.events → (record_of m x).count ≤ count_limit
      → (record_of (guarded_tick t m).marking x).count ≡ min ((record_of m x).count + done (guarded_tick t m).number (times x (caused t m)) 0) count_limit
  unfolding executions_of
  tick_counts m x b small =
      let run = guarded_runs t m in
      ap (λ (n : Marking). (record_of n x).count) (sym run.leads)
      ∙ along run.runs x b small
      ∙ ap (λ (n : ℕ). min ((record_of m x).count + n) count_limit) (go (eqb (guarded_tick t m).number 0))
    where
      go : (b : Bool) → executions_of x (cond b (then_pass (caused t m)) []) ≡ cond b (times x (caused t m)) 0
      go true = executions_then_pass x (caused t m)
      go false = refl

  -- An event that a guarded tick does not cause keeps its count, whether it was skipped or not taken, and where the tick is refused.
  pub uncaused_adds_nothing : (m : Marking) (x : ℕ) → x < m.events → (record_of m x).count ≤ count_limit → times x (caused t m) ≡ 0
      → (record_of (guarded_tick t m).marking x).count ≡ (record_of m x).count
  uncaused_adds_nothing m x b small none_of = tick_counts m x b small ∙ go (eqb (guarded_tick t m).number 0)
    where
      go : (b : Bool) → min ((record_of m x).count + cond b (times x (caused t m)) 0) count_limit ≡ (record_of m x).count
      go true = omega (arith, none_of, small)
      go false = omega (arith, small)

  -- Where the check accepts, each event that a guarded tick causes is counted exactly once by it, up to the hold.
  pub executed_counts_once : (m : Marking) → check t m ≡ Accepts → (before rest : List ℕ) (x : ℕ) → caused t m ≡ before ++ (x ∷ rest)
      → (record_of (guarded_tick t m).marking x).count ≡ min ((record_of m x).count + 1) count_limit
  executed_counts_once m accepted before rest x split =
      let p = promised t m accepted in
      let own = judged_counts m (check_parts t m accepted).0 x (p.each before rest x split).0 in
      let listed = subst (λ (l : List ℕ). 1 ≤ times x l) (sym split) (listed_once before rest x) in
      let one : times x (caused t m) ≡ 1 = omega (arith, listed, p.once x) in
      tick_counts m x own.0 own.1 ∙ rw (p.not_refused, one)

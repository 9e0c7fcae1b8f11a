-- In some acts each event that is executed is included at its moment, and so has a place in the marking. So are the acts of any steps, and
-- those of any chain of calls: what was granted was enabled, and what a guarded tick caused went ahead. No check is asked and nothing is
-- judged: the marking may have too few records, or another number of events than the table. Assumes nothing.
use Rattle.std.specs.Prelude.{◌≡◌, Bool, cond, ◌⊎◌}
use Rattle.std.proofs.Math.Path.{refl}
use Rattle.std.proofs.Common.{◌∙◌, ap, sym, subst, inl, inr, eqb-true}
use Rattle.std.proofs.Math.Bool.{true, false}
use mathlib.Core.List.{List, [], ◌∷◌, ◌++◌}
use Prim.Native.Nat.{ℕ}
use Rattle.std.proofs.Math.Dec.{eqb, leb}
use Rattle.rules.specs.declared.Table.{Table}
use Rattle.rules.specs.declared.Marking.{Marking}
use Rattle.rules.specs.declared.Step.{Step}
use Rattle.rules.specs.Answers.{MarkingAnswer, GuardedAnswer}
use Rattle.rules.specs.Numbers.{◌if◌, done}
use Rattle.rules.specs.Holds.{record_of}
use Rattle.rules.specs.Effect.{effect}
use Rattle.rules.specs.Time.{time, plain_tick}
use Rattle.rules.specs.Happen.{happen}
use Rattle.rules.specs.Guard.{order, goes_ahead, taken, executed_of, caused, guarded_tick}
use Rattle.rules.specs.Trace.{last_happen_kind, plain_tick_kind, wrong_step, step_number, stepped, end_of}
use Rattle.rules.specs.Trace.{run_number, run, steps_in, bytes_number, run_bytes}
use Rattle.rules.specs.History.{Act, executes, passes, after, then_pass, acts_of, history_of}
use Rattle.rules.specs.Calls.{Calls, none, happened, ticked, guardedly, ran, ran_bytes, offered, listed, acts_in}
use Rattle.rules.proofs.Laws.Tests.{decide}
use Rattle.rules.proofs.Laws.Numbers.{both_done, by_number, done_alike}
use Rattle.rules.proofs.Laws.Happen.{happen_granted, call_granted}
use Rattle.rules.proofs.Laws.HoldUp.{enabled_included}
use Rattle.rules.proofs.Laws.Taken.{ahead_included, taken_in, taken_out, tick_listed}
use Rattle.rules.proofs.Demand3.Leading.{after_join, after_guarded, after_acts, after_history}

-- each event that is executed is included at its moment
pub data Runs (t : Table) : Marking → List Act → Type 0 where
  ends : {m : Marking} → Runs t m []
  executing : {m : Marking} {e : ℕ} {rest : List Act} → (record_of m e).included ≡ true → Runs t (effect t m e) rest → Runs t m (executes e ∷ rest)
  passing : {m : Marking} {rest : List Act} → Runs t (time m) rest → Runs t m (passes ∷ rest)

-- such acts, and where they lead
pub record RunsTo (t : Table) (m : Marking) (acts : List Act) (end : Marking) : Type 0 where
  pub runs : Runs t m acts
  pub leads : after t m acts ≡ end

-- an event that happened, granted as a step, was included
step_included : (t : Table) (m : Marking) (s : Step) → step_number t m s ≡ 0 → leb s.kind last_happen_kind ≡ true → (record_of m s.event).included ≡ true
unfolding step_number
step_included t m s h happens =
    let granted = (both_done (15 if wrong_step s.kind s.event) _ h).1 in
    enabled_included t m s.event (happen_granted t m s.event (rw happens at granted))

module _ (t : Table) where
  runs_join : {m : Marking} {a : List Act} (b : List Act) → Runs t m a → Runs t (after t m a) b → Runs t m (a ++ b)
  unfolding after
  runs_join b ends d = d
  runs_join b (executing i c) d = executing i (runs_join b c d)
  runs_join b (passing c) d = passing (runs_join b c d)

  -- what is executed of a list that is taken went ahead
  taken_runs : (m : Marking) (l : List ℕ) → Runs t m (then_pass (executed_of t m l))
  unfolding executed_of then_pass
  taken_runs m [] = passing ends
  taken_runs m (e ∷ l) = go (decide (goes_ahead t m e)) (taken_runs (taken t m e) l)
    where
      then : List ℕ
      then = executed_of t (taken t m e) l

      go : (goes_ahead t m e ≡ true) ⊎ (goes_ahead t m e ≡ false) → Runs t (taken t m e) (then_pass then)
          → Runs t m (then_pass (cond (goes_ahead t m e) (e ∷ then) then))
      go (inl i) r = rw i (executing (ahead_included t m e i) (subst (λ (n : Marking). Runs t n (then_pass then)) (taken_in t m e i) r))
      go (inr i) r = rw i (subst (λ (n : Marking). Runs t n (then_pass then)) (taken_out t m e i) r)

  caused_runs : (m : Marking) → Runs t m (then_pass (caused t m))
  unfolding caused
  caused_runs m = taken_runs m (order t m)

  step_runs : (m : Marking) (s : Step) → Runs t m (acts_of t m s)
  unfolding acts_of
  step_runs m s = go (eqb (step_number t m s) 0) (leb s.kind last_happen_kind) (eqb s.kind plain_tick_kind) refl refl
    where
      go : (d a p : Bool) → eqb (step_number t m s) 0 ≡ d → leb s.kind last_happen_kind ≡ a
          → Runs t m (cond d (cond a (executes s.event ∷ []) (cond p (passes ∷ []) (then_pass (caused t m)))) [])
      go true true p n k = executing (step_included t m s (eqb-true (step_number t m s) 0 n) k) ends
      go true false true n k = passing ends
      go true false false n k = caused_runs m
      go false a p n k = ends

  -- in the history of any steps, each event that is executed is included at its moment
  pub history_runs : (m : Marking) (steps : List Step) → Runs t m (history_of t m steps)
  unfolding history_of
  history_runs m [] = ends
  history_runs m (s ∷ rest) =
      runs_join (history_of t (stepped t m s) rest) (step_runs m s)
      (subst (λ (n : Marking). Runs t n (history_of t (stepped t m s) rest)) (sym (after_acts t m s)) (history_runs (stepped t m s) rest))

  -- Calls: what each is answered, and one behind the other.
  to_join : {m now end : Marking} {a b : List Act} → RunsTo t m a now → RunsTo t now b end → RunsTo t m (a ++ b) end
  to_join {m} {now} {end} {a} {b} first then =
      record {
        runs = runs_join b first.runs (subst (λ (n : Marking). Runs t n b) (sym first.leads) then.runs);
        leads = after_join t m a b ∙ ap (λ (n : Marking). after t n b) first.leads ∙ then.leads;
      }

  -- a call that is refused comes to nothing
  to_done : {m now : Marking} {acts : List Act} (number : ℕ) → (number ≡ 0 → RunsTo t m acts now) → RunsTo t m (done number acts []) (done number now m)
  unfolding after
  to_done number granted = by_number number (λ z. rw z (granted z)) (λ r. rw r (record { runs = ends; leads = refl }))

  abbrev Told : Marking → List Act → MarkingAnswer → Type 0
  Told m acts answer = RunsTo t m (done answer.number acts []) answer.marking

  happened_runs : (m : Marking) (e : ℕ) → Told m (executes e ∷ []) (happen t m e)
  unfolding happen after
  happened_runs m e =
      to_done (happen t m e).number
      (λ granted. record { runs = executing (enabled_included t m e (call_granted t m e granted)) ends; leads = refl })

  tick_runs : (m : Marking) → Told m (passes ∷ []) (plain_tick t m)
  unfolding plain_tick after
  tick_runs m = to_done (plain_tick t m).number (λ granted. record { runs = passing ends; leads = refl })

  played_runs : (m : Marking) (number : ℕ) (steps : List Step) → RunsTo t m (done number (history_of t m steps) []) (done number (end_of t m steps) m)
  played_runs m number steps = to_done number (λ granted. record { runs = history_runs m steps; leads = after_history t m steps })

  -- a guarded tick comes to what it causes
  pub guarded_runs : (m : Marking) → RunsTo t m (done (guarded_tick t m).number (then_pass (caused t m)) []) (guarded_tick t m).marking
  unfolding guarded_tick
  guarded_runs m = to_done (guarded_tick t m).number (λ granted. record { runs = caused_runs m; leads = after_guarded t m })

  listed_runs : (m : Marking) → let answer = guarded_tick t m in RunsTo t m (done answer.number (then_pass (listed answer)) []) answer.marking
  listed_runs m =
      subst (λ (l : List Act). RunsTo t m l (guarded_tick t m).marking)
      (done_alike (guarded_tick t m).number (then_pass (caused t m)) (then_pass (listed (guarded_tick t m))) []
      (λ granted. ap then_pass (sym (tick_listed t m ∙ rw granted))))
      (guarded_runs m)

  -- in what a chain of calls comes to, each event that is executed is included at its moment; and it leads where the chain ends
  pub calls_run : {m end : Marking} {steps : List Step} (calls : Calls t m steps end) → RunsTo t m (acts_in calls) end
  unfolding acts_in after run run_bytes
  calls_run none = record { runs = ends; leads = refl }
  calls_run (happened {m} e answer is rest) = to_join (subst (Told m (executes e ∷ [])) (sym is) (happened_runs m e)) (calls_run rest)
  calls_run (ticked {m} answer is rest) = to_join (subst (Told m (passes ∷ [])) (sym is) (tick_runs m)) (calls_run rest)
  calls_run (guardedly {m} answer is rest) =
      to_join (subst (λ (a : GuardedAnswer). RunsTo t m (done a.number (then_pass (listed a)) []) a.marking) (sym is) (listed_runs m)) (calls_run rest)
  calls_run (ran {m} played room answer is rest) =
      to_join (subst (Told m (history_of t m played)) (sym is) (played_runs m (run_number t m played room) played)) (calls_run rest)
  calls_run (ran_bytes {m} bytes room answer is rest) =
      to_join (subst (Told m (history_of t m (steps_in bytes))) (sym is) (played_runs m (bytes_number t m bytes room) (steps_in bytes)))
      (calls_run rest)
  calls_run (offered preferred fallback answer is rest) = calls_run rest

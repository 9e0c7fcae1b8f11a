-- What two calls were for is one call's. A request was for a controllable event, a report for an uncontrollable one; for an event of the other
-- class each gave 9. Where they gave another number the one call gives the same, with the same marking; so it grants what they granted. The kinds
-- 0 and 1 of a step, theirs, now mean the same, and a trace that was answered no 9 runs as it did. Assumes nothing.
use Rattle.std.specs.Prelude.{◌≡◌, Bool, not, cond, eqb, get_or}
use Rattle.std.proofs.Math.Path.{refl, ap}
use Rattle.std.proofs.Common.{◌∙◌, arith}
use Rattle.std.proofs.Math.Bool.{true, false}
use mathlib.Core.List.{List, [], ◌∷◌}
use Prim.Native.Nat.{ℕ, zero, suc}
use borrow.Author.Tests.{ne_eqb}
use Rattle.rules.specs.declared.Table.{Table}
use Rattle.rules.specs.declared.Marking.{Marking}
use Rattle.rules.specs.declared.Step.{Step}
use Rattle.rules.specs.Answers.{MarkingAnswer}
use Rattle.rules.specs.Numbers.{◌if◌, ◌else◌, done}
use Rattle.rules.specs.Holds.{is_controllable}
use Rattle.rules.specs.Judge.{judged, event_number}
use Rattle.rules.specs.Enabled.{is_enabled}
use Rattle.rules.specs.Effect.{effect}
use Rattle.rules.specs.Happen.{happen_number, happen}
use Rattle.rules.specs.Trace.{step_number, step_done, stepped, end_of, answers_of}
use Rattle.rules.specs.Calls.{step}

module _ (t : Table) (m : Marking) (e : ℕ) where
  -- the old numbers, and the old calls
  abbrev old_number : Bool → ℕ
  old_number other = event_number t e else 9 if other else 10 if not (is_enabled t m e)

  abbrev pub request_number : ℕ
  request_number = old_number (not (is_controllable t e))

  abbrev pub report_number : ℕ
  report_number = old_number (is_controllable t e)

  abbrev answered : ℕ → MarkingAnswer
  answered number = record { number = number; marking = done number (effect t m e) m }

  abbrev pub request : MarkingAnswer
  request = answered (judged t m else request_number)

  abbrev pub report : MarkingAnswer
  report = answered (judged t m else report_number)

  -- what was not answered 9: by a step, which judges nothing, and by a call
  pub old_number_lem : (other : Bool) → (old_number other ≡ 9 → ⊥) → happen_number t m e ≡ old_number other
  unfolding happen_number
  old_number_lem other = go (event_number t e) other _
    where
      go : (missing : ℕ) (other : Bool) (held : ℕ) → ((missing else 9 if other else held) ≡ 9 → ⊥) → (missing else held) ≡ (missing else 9 if other else held)
      go zero true held h = absurd (h refl)
      go zero false held h = refl
      go (suc missing) other held h = refl

  pub old_answer : (other : Bool) → ((judged t m else old_number other) ≡ 9 → ⊥) → happen t m e ≡ answered (judged t m else old_number other)
  unfolding happen
  old_answer other h = ap answered (go (judged t m) h)
    where
      go : (fault : ℕ) → ((fault else old_number other) ≡ 9 → ⊥) → (fault else happen_number t m e) ≡ (fault else old_number other)
      go zero h = old_number_lem other h
      go (suc fault) h = refl

  -- what was granted is granted, with the same marking
  pub old_grants : (request.number ≡ 0 → happen t m e ≡ request) × (report.number ≡ 0 → happen t m e ≡ report)
  old_grants = (λ z. old_answer (not (is_controllable t e)) (λ n. omega (arith, z, n)), λ z. old_answer (is_controllable t e) (λ n. omega (arith, z, n)))

  -- either kind of step
  pub either_kind : (step_number t m (step 0 e) ≡ step_number t m (step 1 e)) × (stepped t m (step 0 e) ≡ stepped t m (step 1 e))
  unfolding step_number step_done stepped
  either_kind = (refl, refl)

-- Old traces run
module _ (t : Table) where
  -- kind 0 was a request and kind 1 a report; of any other kind a step is what it was
  abbrev pub old_step_number : Marking → Step → ℕ
  old_step_number m s =
      cond (eqb s.kind 0) (request_number t m s.event) (cond (eqb s.kind 1) (report_number t m s.event) (step_number t m s))

  abbrev pub old_stepped : Marking → Step → Marking
  old_stepped m s = done (old_step_number m s) (step_done t m s) m

  unfoldable pub old_end : Marking → List Step → Marking
  old_end m [] = m
  old_end m (s ∷ rest) = old_end (old_stepped m s) rest

  unfoldable pub old_answers : Marking → List Step → List ℕ
  old_answers m [] = []
  old_answers m (s ∷ rest) = old_step_number m s ∷ old_answers (old_stepped m s) rest

  old_step : (m : Marking) (kind e : ℕ) → (old_step_number m (step kind e) ≡ 9 → ⊥) → step_number t m (step kind e) ≡ old_step_number m (step kind e)
  unfolding step_number
  old_step m zero e h = old_number_lem t m e (not (is_controllable t e)) h
  old_step m (suc zero) e h = old_number_lem t m e (is_controllable t e) h
  old_step m (suc (suc kind)) e h = rw (ne_eqb (suc (suc kind)) 0 (λ same. omega (arith, same)), ne_eqb (suc (suc kind)) 1 (λ same. omega (arith, same)))

  -- a trace that was answered no 9 has the same answers and the same end marking
  pub old_traces_run : (m : Marking) (steps : List Step) → ((i : ℕ) → get_or (old_answers m steps) i 0 ≡ 9 → ⊥)
      → (answers_of t m steps ≡ old_answers m steps) × (end_of t m steps ≡ old_end m steps)
  unfolding answers_of end_of old_answers old_end stepped
  old_traces_run m [] h = (refl, refl)
  old_traces_run m (s ∷ rest) h =
      let after : ℕ → Marking = λ number. done number (step_done t m s) m in
      let now = old_step m s.kind s.event (h 0) in
      let later = old_traces_run (old_stepped m s) rest (λ i. h (suc i)) in (
        ap (λ (number : ℕ). number ∷ answers_of t (after number) rest) now ∙ ap {B = List ℕ} (λ l. old_step_number m s ∷ l) later.0,
        ap (λ (number : ℕ). end_of t (after number) rest) now ∙ later.1,
      )

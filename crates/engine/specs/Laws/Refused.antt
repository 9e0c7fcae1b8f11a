-- A call that is refused answers what its rule says of a refusal. Assumes nothing.
use Rattle.std.specs.Prelude.{◌≡◌, Bool, List, ℕ, ltb, not, length, Result, Err}
use Rattle.std.proofs.Math.Path.{refl}
use Rattle.std.proofs.Common.{sym, ◌∙◌}
use Rattle.rules.specs.declared.Table.{Table}
use Rattle.rules.specs.declared.Marking.{Marking}
use Rattle.rules.specs.declared.Step.{Step}
use Rattle.rules.specs.declared.refusal.Refusal.{Refusal}
use Rattle.rules.specs.declared.answers.Margin.{Margin}
use Rattle.rules.specs.declared.answers.HoldUp.{HoldUp}
use Rattle.rules.specs.declared.answers.Closure.{Closure}
use Rattle.rules.specs.declared.verdict.CheckError.{CheckError}
use Rattle.rules.specs.declared.verdict.CheckError.TheVariants.{Refused, Rejected}
use Rattle.rules.specs.Numbers.{◌if◌, ◌else◌}
use Rattle.rules.specs.Results.{refusal_number, as_marking, as_enabled, as_set, as_closure, as_margin, as_hold_up, as_check, as_guarded, reason_number}
use Rattle.rules.specs.Judge.{judged, event_number}
use Rattle.rules.specs.Enabled.{is_enabled, enabled_answer}
use Rattle.rules.specs.Time.{due_answer, plain_tick, plain_tick_number}
use Rattle.rules.specs.Happen.{happen, happen_number}
use Rattle.rules.specs.Margin.{margin}
use Rattle.rules.specs.HoldUp.{hold_up}
use Rattle.rules.specs.EventSet.{size_of}
use Rattle.rules.specs.Closure.{closure, closure_answer}
use Rattle.rules.specs.CheckAnswer.{Rejects}
use Rattle.rules.specs.declared.answers.Guarded.{Guarded}
use Rattle.rules.specs.declared.verdict.Rejection.{Rejection}
use Rattle.rules.specs.Check.{check, verdict}
use Rattle.rules.specs.Guard.{caused, guarded, guarded_tick}
use Rattle.rules.specs.Trace.{run, run_number, run_answers, run_bytes, bytes_number, run_bytes_answers}
use Rattle.engine.specs.Laws.Results.{refused_done, refused_else}

module _ (t : Table) (m : Marking) (refusal : Refusal) where
  -- the judge's number, and the next one
  pub at_judging : (next : ℕ) → refusal_number refusal ≡ judged t m → refusal_number refusal ≡ (judged t m else next)
  at_judging next is = is ∙ sym (refused_else refusal is next)

  pub after_judging : (next : ℕ) → 0 ≡ judged t m → refusal_number refusal ≡ next → refusal_number refusal ≡ (judged t m else next)
  after_judging next done is = rw (← done) is

  -- of an event that is to happen: it is not there, or is not enabled
  pub at_event : (e : ℕ) → refusal_number refusal ≡ event_number t e → refusal_number refusal ≡ happen_number t m e
  unfolding happen_number
  at_event e is = is ∙ sym (refused_else refusal is (10 if not (is_enabled t m e)))

  pub after_event : (e : ℕ) → 0 ≡ event_number t e → refusal_number refusal ≡ (10 if not (is_enabled t m e)) → refusal_number refusal ≡ happen_number t m e
  unfolding happen_number
  after_event e there is = rw (← there) is

  -- a refusal that `?` hands on
  module _ {r : Result Bool Refusal} (was : r ≡ Err refusal) where
    pub enabled_refused : (e : ℕ) → refusal_number refusal ≡ (judged t m else event_number t e) → as_enabled r ≡ enabled_answer t m e
    unfolding enabled_answer
    enabled_refused e is = rw (was, ← is, refused_done refusal refl) refl

  module _ {r : Result ℕ Refusal} (was : r ≡ Err refusal) where
    pub due_refused : refusal_number refusal ≡ judged t m → as_set r ≡ due_answer t m
    unfolding due_answer
    due_refused is = rw (was, ← is, refused_done refusal refl) refl

  module _ {r : Result Marking Refusal} (was : r ≡ Err refusal) where
    pub happen_refused : (e : ℕ) → refusal_number refusal ≡ (judged t m else happen_number t m e) → as_marking m r ≡ happen t m e
    unfolding happen
    happen_refused e is = rw (was, ← is, refused_done refusal refl) refl

    pub tick_refused : refusal_number refusal ≡ (judged t m else plain_tick_number m) → as_marking m r ≡ plain_tick t m
    unfolding plain_tick
    tick_refused is = rw (was, ← is, refused_done refusal refl) refl

    pub run_refused : (steps : List Step) (room : ℕ) → refusal_number refusal ≡ run_number t m steps room → as_marking m r ≡ run t m steps room
    unfolding run
    run_refused steps room is = rw (was, ← is, refused_done refusal refl) refl

    pub run_bytes_refused : (bytes : List ℕ) (room : ℕ) → refusal_number refusal ≡ bytes_number t m bytes room → as_marking m r ≡ run_bytes t m bytes room
    unfolding run_bytes
    run_bytes_refused bytes room is = rw (was, ← is, refused_done refusal refl) refl

  -- .. and the lent buffer stays as it was
  pub run_answers_refused : (steps : List Step) (buffer : List ℕ) → refusal_number refusal ≡ run_number t m steps (length buffer)
      → buffer ≡ run_answers t m steps buffer
  unfolding run_answers
  run_answers_refused steps buffer is = rw (← is, refused_done refusal refl) refl

  pub run_bytes_answers_refused : (bytes buffer : List ℕ) → refusal_number refusal ≡ bytes_number t m bytes (length buffer)
      → buffer ≡ run_bytes_answers t m bytes buffer
  unfolding run_bytes_answers
  run_bytes_answers_refused bytes buffer is = rw (← is, refused_done refusal refl) refl

  module _ {r : Result Margin Refusal} (was : r ≡ Err refusal) where
    pub margin_refused : (k : ℕ) → refusal_number refusal ≡ (judged t m else 8 if not (ltb k t.count)) → as_margin r ≡ margin t m k
    unfolding margin
    margin_refused k is = rw (was, ← is, refused_done refusal refl) refl

  module _ {r : Result HoldUp Refusal} (was : r ≡ Err refusal) where
    pub hold_up_refused : (e : ℕ) → refusal_number refusal ≡ (judged t m else event_number t e) → as_hold_up r ≡ hold_up t m e
    unfolding hold_up
    hold_up_refused e is = rw (was, ← is, refused_done refusal refl) refl

  module _ {r : Result Closure Refusal} (was : r ≡ Err refusal) where
    pub closure_refused : refusal_number refusal ≡ judged t m → as_closure r ≡ closure_answer t m
    unfolding closure_answer
    closure_refused is = rw (was, ← is, refused_done refusal refl (closure t m), refused_done refusal refl (size_of (closure t m))) refl

-- .. before the check, or by it
module _ (t : Table) (m : Marking) {r : Result (Unit {0}) CheckError} where
  pub check_refused : (refusal : Refusal) → r ≡ Err (Refused refusal) → refusal_number refusal ≡ judged t m → as_check r ≡ check t m
  unfolding check
  check_refused refusal was is = rw (was, ← is, refused_done refusal refl) refl

  pub check_rejected : (rejection : Rejection) → r ≡ Err (Rejected rejection) → 0 ≡ judged t m
      → Rejects (reason_number rejection.reason) rejection.place ≡ verdict t m → as_check r ≡ check t m
  unfolding check
  check_rejected rejection was done is = rw (was, ← done) is

module _ (t : Table) (m : Marking) {r : Result Guarded CheckError} where
  pub guarded_refused : (error : CheckError) → r ≡ Err error → as_check {A = Unit {0}} (Err error) ≡ check t m → as_guarded m r ≡ guarded_tick t m
  unfolding guarded_tick
  guarded_refused (Refused refusal) was is = rw (was, ← is, refused_done refusal refl (caused t m), refused_done refusal refl (guarded t m)) refl
  guarded_refused (Rejected rejection) was is = rw (was, ← is) refl

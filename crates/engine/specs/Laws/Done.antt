-- A call that is done answers what its rule says, by what was told on the way. Assumes nothing.
use Rattle.std.specs.Prelude.{◌≡◌, Bool, List, ◌++◌, ℕ, ◌<◌, ◌/◌, ltb, not, length, drop, replicate, Ok}
use Rattle.std.proofs.Math.Path.{refl}
use Rattle.std.proofs.Common.{sym, ◌∙◌, ltb-true}
use Rattle.rules.specs.declared.Table.{Table}
use Rattle.rules.specs.declared.Marking.{Marking}
use Rattle.rules.specs.declared.Step.{Step}
use Rattle.rules.specs.declared.answers.Margin.{Margin}
use Rattle.rules.specs.declared.answers.HoldUp.{HoldUp}
use Rattle.rules.specs.Numbers.{◌if◌}
use Rattle.rules.specs.Results.{as_marking, as_enabled, as_set, as_closure, as_margin, as_margin_of, as_hold_up, as_hold_up_of, as_guarded}
use Rattle.rules.specs.EventSet.{size_of}
use Rattle.rules.specs.Holds.{relation_of, record_of}
use Rattle.rules.specs.Judge.{judged, event_number}
use Rattle.rules.specs.Enabled.{is_enabled, enabled_answer}
use Rattle.rules.specs.Effect.{effect}
use Rattle.rules.specs.Time.{due_set, due_answer, time, plain_tick, plain_tick_number}
use Rattle.rules.specs.Happen.{happen, happen_number}
use Rattle.rules.specs.Margin.{margin_of, margin}
use Rattle.rules.specs.HoldUp.{hold_up_of, hold_up}
use Rattle.rules.specs.Closure.{closure, closure_answer}
use Rattle.rules.specs.CheckAnswer.{Accepts}
use Rattle.rules.specs.Check.{verdict, check}
use Rattle.rules.specs.Guard.{order, taken_all, caused, guarded, guarded_tick}
use Rattle.rules.specs.Trace.{trace_number, end_of, answers_of, run, run_answers, steps_in, bytes_number, run_bytes, run_bytes_answers}
use Rattle.duties.specs.AtStart.{AtStart}
use Rattle.duties.specs.Laws.Taking.{answered_is}
use Rattle.duties.specs.Laws.Checked.{tick_accepted}
use Rattle.rules.proofs.Laws.Tests.{not_false}
use Rattle.rules.proofs.Laws.Numbers.{if_done}

-- what is asked about is among those that are there
pub is_there : (asked there : ℕ) → 0 ≡ (8 if not (ltb asked there)) → asked < there
is_there asked there h = ltb-true asked there (not_false (ltb asked there) (if_done 7 (not (ltb asked there)) (sym h)))

module _ (t : Table) (m : Marking) (done : 0 ≡ judged t m) where
  pub enabled_done : (e : ℕ) {is : Bool} → 0 ≡ event_number t e → is ≡ is_enabled t m e → as_enabled (Ok is) ≡ enabled_answer t m e
  unfolding enabled_answer
  enabled_done e there told = rw (told, ← done, ← there) refl

  pub due_done : {set : ℕ} → set ≡ due_set m → as_set (Ok set) ≡ due_answer t m
  unfolding due_answer
  due_done told = rw (told, ← done) refl

  pub happen_done : (e : ℕ) {after : Marking} → 0 ≡ event_number t e → 0 ≡ (10 if not (is_enabled t m e)) → after ≡ effect t m e
      → as_marking m (Ok after) ≡ happen t m e
  unfolding happen happen_number
  happen_done e there may told = rw (told, ← done, ← there, ← may) refl

  pub tick_done : {after : Marking} → 0 ≡ plain_tick_number m → after ≡ time m → as_marking m (Ok after) ≡ plain_tick t m
  unfolding plain_tick
  tick_done none told = rw (told, ← done, ← none) refl

  pub margin_done : (k : ℕ) (answer : Margin) → 0 ≡ (8 if not (ltb k t.count))
      → as_margin_of answer ≡ margin_of (relation_of t k) (record_of m (relation_of t k).right) → as_margin (Ok answer) ≡ margin t m k
  unfolding margin
  margin_done k answer there told = rw (told, ← done, ← there) refl

  pub hold_up_done : (e : ℕ) (answer : HoldUp) → 0 ≡ event_number t e → as_hold_up_of answer ≡ hold_up_of t m e → as_hold_up (Ok answer) ≡ hold_up t m e
  unfolding hold_up
  hold_up_done e answer there told = rw (told, ← done, ← there) refl

  pub closure_done : {set size : ℕ} → set ≡ closure t m → size ≡ size_of set → as_closure (Ok (record { set = set; size = size })) ≡ closure_answer t m
  unfolding closure_answer
  closure_done set size = rw (size, set, ← done) refl

  -- the check accepts
  pub check_done : Accepts ≡ verdict t m → Accepts ≡ check t m
  unfolding check
  check_done accepts = rw (← done) accepts

  pub guarded_done : Accepts ≡ verdict t m → {list : List ℕ} {count : ℕ} → AtStart (caused t m) (replicate 64 0) count list
      → {after : Marking} → after ≡ time (taken_all t m (order t m))
      → as_guarded m (Ok (record { caused = list; count = count; marking = after })) ≡ guarded_tick t m
  unfolding guarded
  guarded_done accepts told given = answered_is (caused t m) (guarded t m) _ told given ∙ tick_accepted t m (sym done) (sym accepts)

  -- a trace that is granted
  module _ (steps : List Step) (buffer : List ℕ) (trace_done : 0 ≡ trace_number (length steps) (length buffer)) where
    pub run_done : {after : Marking} → after ≡ end_of t m steps → as_marking m (Ok after) ≡ run t m steps (length buffer)
    unfolding run
    run_done told = rw (told, ← done, ← trace_done) refl

    pub run_answers_done : {held : List ℕ} → held ≡ answers_of t m steps → held ++ drop (length steps) buffer ≡ run_answers t m steps buffer
    unfolding run_answers
    run_answers_done told = rw (told, ← done, ← trace_done) refl

module _ (t : Table) (m : Marking) (bytes buffer : List ℕ) (done : 0 ≡ bytes_number t m bytes (length buffer)) where
  pub run_bytes_done : {after : Marking} → after ≡ end_of t m (steps_in bytes) → as_marking m (Ok after) ≡ run_bytes t m bytes (length buffer)
  unfolding run_bytes
  run_bytes_done told = rw (told, ← done) refl

  pub run_bytes_answers_done : {held : List ℕ} → held ≡ answers_of t m (steps_in bytes)
      → held ++ drop (length bytes / 2) buffer ≡ run_bytes_answers t m bytes buffer
  unfolding run_bytes_answers
  run_bytes_answers_done told = rw (told, ← done) refl

-- A C caller's chain of the exported calls on one table image and one marking buffer, and what the caller is answered at its end. It speaks of
-- the contracts themselves, as the check reads them, and of what the calls leave in the buffers. Definitions only.
use mathlib.Core.Path.{◌≡◌}
use mathlib.Core.Bool.{false}
use mathlib.Core.List.{List, [], ◌∷◌, ◌++◌}
use Prim.Native.Nat.{ℕ, ◌+◌, ◌*◌, ◌<◌, ◌≤◌}
use lib.ListN.{length, get_or, take, drop}
use contract.Lifetimes.{Lfts}
use denote.Triple.Clauses.{AtExit}
use borrow.Fn.Kinds.{ParamKind, ResultKind, Out, Dens, res_t, ended_of}
use Rattle.rules.specs.declared.Step.{Step}
use Rattle.rules.specs.Numbers.{done}
use Rattle.rules.specs.Holds.{is_controllable}
use Rattle.rules.specs.Image.{marking_image}
use Rattle.rules.specs.Time.{time}
use Rattle.rules.specs.Remedy.{effects}
use Rattle.rules.specs.Trace.{happen_kind, plain_tick_kind, guarded_tick_kind, end_of, steps_in}
use Rattle.rules.specs.Images.{table_of, marking_of}
use Rattle.rules.specs.Promised.{Promise}
use Rattle.rules.specs.History.{Act, executes, passes, after, passes_in, then_pass, history_of}
use Rattle.rules.specs.Deadline.{Duty, Settles, Met}
use Rattle.rules.specs.Calls.{step, Caused}
use Rattle.duty.proofs.duty_happen.Kinds as happen-kinds
use Rattle.duty.proofs.duty_happen.Reads as happen
use Rattle.duty.proofs.duty_plain_tick.Kinds as plain-tick-kinds
use Rattle.duty.proofs.duty_plain_tick.Reads as plain-tick
use Rattle.duty.proofs.duty_check.Kinds as check-kinds
use Rattle.duty.proofs.duty_check.Reads as check
use Rattle.duty.proofs.duty_guarded_tick.Kinds as guarded-tick-kinds
use Rattle.duty.proofs.duty_guarded_tick.Reads as guarded_tick_lem
use Rattle.duty.proofs.duty_sleep.Kinds as sleep-kinds
use Rattle.duty.proofs.duty_sleep.Reads as sleep
use Rattle.duty.proofs.duty_quiet.Kinds as quiet-kinds
use Rattle.duty.proofs.duty_quiet.Reads as quiet
use Rattle.duty.proofs.duty_due.Kinds as due-kinds
use Rattle.duty.proofs.duty_due.Reads as due
use Rattle.duty.proofs.duty_remedies.Kinds as remedies-kinds
use Rattle.duty.proofs.duty_remedies.Reads as remedies
use Rattle.duty.proofs.duty_run.Kinds as run-kinds
use Rattle.duty.proofs.duty_run.Reads as run
use Rattle.duty.proofs.duty_record.Kinds as record-kinds
use Rattle.duty.proofs.duty_record.Reads as record-reads

-- a call that keeps its promise: what it is handed, what it answers, and what the lent arguments hold afterwards. Arguments go by their place in
-- the call's signature: `.0` the table image, `.1 .0` the marking's buffer, `.1 .1 .0` the next one, and so on
pub record Made (n : ℕ) (ps : List (ParamKind n)) (r : ResultKind n) (promise : Out n ps r) : Type 0 where
  pub lifetimes : Lfts n
  pub handed : Dens lifetimes ps
  pub answer : (res_t r lifetimes).Denot
  pub left : AtExit (ended_of n ps r) lifetimes
  pub promised : promise lifetimes handed answer left

abbrev pub Happen : Type 0
Happen = Made 2 happen-kinds.ps happen-kinds.r happen.Learnt

abbrev pub PlainTick : Type 0
PlainTick = Made 2 plain-tick-kinds.ps plain-tick-kinds.r plain-tick.Learnt

abbrev pub Check : Type 0
Check = Made 4 check-kinds.ps check-kinds.r check.Learnt

abbrev pub GuardedTick : Type 0
GuardedTick = Made 6 guarded-tick-kinds.ps guarded-tick-kinds.r guarded_tick_lem.Learnt

abbrev pub Sleep : Type 0
Sleep = Made 6 sleep-kinds.ps sleep-kinds.r sleep.Learnt

abbrev pub Quiet : Type 0
Quiet = Made 3 quiet-kinds.ps quiet-kinds.r quiet.Learnt

abbrev pub Due : Type 0
Due = Made 3 due-kinds.ps due-kinds.r due.Learnt

abbrev pub Run : Type 0
Run = Made 4 run-kinds.ps run-kinds.r run.Learnt

abbrev pub Remedies : Type 0
Remedies = Made 6 remedies-kinds.ps remedies-kinds.r remedies.Learnt

abbrev pub Record : Type 0
Record = Made 3 record-kinds.ps record-kinds.r record-reads.Learnt

-- the events that a guarded tick tells: the first `count` of the buffer lent for them
abbrev pub count : GuardedTick → ℕ
count call = call.left.1.1.1.0.now

abbrev pub listed : GuardedTick → List ℕ
listed call = take (count call) call.left.1.1.0.now

-- the places that a sleep tells: the first `count` of the list lent for them
abbrev pub slept_places : Sleep → List ℕ
slept_places call = take call.left.1.1.1.1.0.now call.left.1.1.1.0.now

-- a chain of calls, each handed the same table image and the marking's bytes as the call before left them, and its steps; a guarded tick or a
-- trace that is refused has none, and so have offered lists
pub data Chained (table : List ℕ) : List ℕ → List Step → List ℕ → Type 0 where
  none : {marking : List ℕ} → Chained table marking [] marking
  happened : {marking end : List ℕ} {steps : List Step} (call : Happen) → call.handed.0.now ≡ table → call.handed.1.0.now ≡ marking
      → Chained table call.left.1.0.now steps end → Chained table marking (step happen_kind call.handed.1.1.0 ∷ steps) end
  ticked : {marking end : List ℕ} {steps : List Step} (call : PlainTick) → call.handed.0.now ≡ table → call.handed.1.0.now ≡ marking
      → Chained table call.left.1.0.now steps end → Chained table marking (step plain_tick_kind 0 ∷ steps) end
  guardedly : {marking end : List ℕ} {steps : List Step} (call : GuardedTick) → call.handed.0.now ≡ table → call.handed.1.0.now ≡ marking
      → Chained table call.left.1.0.now steps end → Chained table marking (done call.answer (step guarded_tick_kind 0 ∷ []) [] ++ steps) end
  ran : {marking end : List ℕ} {steps : List Step} (call : Run) → call.handed.0.now ≡ table → call.handed.1.0.now ≡ marking
      → Chained table call.left.1.0.now steps end
      → Chained table marking (done call.answer (steps_in call.handed.1.1.0.now) [] ++ steps) end
  -- lists are offered and tried; the marking is lent to be read alone, so what comes next is handed the same bytes
  offered : {marking end : List ℕ} {steps : List Step} (call : Remedies) → call.handed.0.now ≡ table → call.handed.1.0.now ≡ marking
      → Chained table marking steps end → Chained table marking steps end

-- what a chain comes to, read off the answers and the buffers: a call that was refused comes to nothing, and so do offered lists
unfoldable pub acts_in : {table marking end : List ℕ} {steps : List Step} → Chained table marking steps end → List Act
acts_in none = []
acts_in (happened call p q rest) = done call.answer (executes call.handed.1.1.0 ∷ []) [] ++ acts_in rest
acts_in (ticked call p q rest) = done call.answer (passes ∷ []) [] ++ acts_in rest
acts_in (guardedly call p q rest) = done call.answer (then_pass (listed call)) [] ++ acts_in rest
acts_in {table} {marking} (ran call p q rest) =
    done call.answer (history_of (table_of table) (marking_of table marking) (steps_in call.handed.1.1.0.now)) [] ++ acts_in rest
acts_in (offered call p q rest) = acts_in rest

-- What a guarded tick answers and leaves, on a table image and a marking image.
pub record Ticked (table marking : List ℕ) (call : GuardedTick) : Type 0 where
  -- it is not refused; it lists as many events as it counts, at most one for each event of the table, and later bytes stay
  pub not_refused : call.answer ≡ 0
  pub counted : length (listed call) ≡ count call
  pub room : count call ≤ (table_of table).events
  pub past : drop (count call) call.left.1.1.0.now ≡ drop (count call) call.handed.1.1.0.now
  -- they are executed, then time passes, and that is the marking put back
  pub caused : Caused (table_of table) (marking_of table marking) (listed call)
  pub passed : call.left.1.0.now ≡ marking_image (time (effects (table_of table) (marking_of table marking) (listed call)))

-- What a C caller is answered on a table image and a marking image, and along any chain of calls from there.
pub record Answered (table marking : List ℕ) : Type 0 where
  -- the check answers 0
  pub checked : (call : Check) → call.handed.0.now ≡ table → call.handed.1.0.now ≡ marking → call.answer ≡ 0
  -- a guarded tick that is lent a byte for each event keeps its promise
  pub ticks : (call : GuardedTick) → call.handed.0.now ≡ table → call.handed.1.0.now ≡ marking
      → (table_of table).events ≤ length call.handed.1.1.0.now → Ticked table marking call
  -- each guarded tick within a trace that is played has the answer byte 0, and kept its promise in the marking that the steps before it led to
  pub played : (call : Run) → call.handed.0.now ≡ table → call.handed.1.0.now ≡ marking → call.answer ≡ 0 → let bytes = call.handed.1.1.0.now in
      (i : ℕ) → 2 * i + 1 < length bytes → get_or bytes (2 * i) 0 ≡ guarded_tick_kind → get_or bytes (2 * i + 1) 0 ≡ 0
      → (get_or call.left.1.1.1.0.now i 0 ≡ 0)
      × Promise (table_of table) (end_of (table_of table) (marking_of table marking) (steps_in (take (2 * i) bytes)))
  -- an uncontrollable event that happens is always done
  pub heard : (call : Happen) → call.handed.0.now ≡ table → call.handed.1.0.now ≡ marking → let e = call.handed.1.1.0 in
      e < (table_of table).events → is_controllable (table_of table) e ≡ false → call.answer ≡ 0
  -- an included event that is to be done within d ticks, here or at any point of a chain of calls from here, is executed, given a new deadline
  -- or excluded before the (d + 1)th tick from then passes
  pub kept : {end : List ℕ} {steps : List Step} (calls : Chained table marking steps end) (before rest : List Act) → acts_in calls ≡ before ++ rest
      → (x d : ℕ) → x < (table_of table).events → Duty (after (table_of table) (marking_of table marking) before) x d → d < passes_in rest
      → Met (table_of table) (Settles (table_of table) x) (after (table_of table) (marking_of table marking) before) d rest

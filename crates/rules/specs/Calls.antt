-- A caller chains the engine's public calls, each handed the marking that the one before answered. What is said here speaks of what the calls
-- promise, that an answer is the one defined, and of the answers' fields.
use Rattle.std.specs.Prelude.{◌≡◌, true, false, cond, List, [], ◌∷◌, ◌++◌, map, ℕ, zero, suc, ◌<◌, ◌≤◌, ◌-◌, ◌/◌, ◌%◌, eqb, length, get_or, take, drop, replicate}
use Rattle.rules.specs.declared.Table.{Table}
use Rattle.rules.specs.declared.Marking.{Marking}
use Rattle.rules.specs.declared.Step.{Step}
use Rattle.rules.specs.Answers.{SetAnswer, MarkingAnswer, GuardedAnswer, RemedyAnswer}
use Rattle.rules.specs.CheckAnswer.{CheckAnswer, Accepts}
use Rattle.rules.specs.Numbers.{done}
use Rattle.rules.specs.EventSet.{has}
use Rattle.rules.specs.Holds.{most_events, is_controllable, is_causable}
use Rattle.rules.specs.Enabled.{is_enabled}
use Rattle.rules.specs.Time.{time, due_answer, plain_tick}
use Rattle.rules.specs.Happen.{happen}
use Rattle.rules.specs.Closure.{closure_answer}
use Rattle.rules.specs.Check.{check}
use Rattle.rules.specs.Guard.{guarded_tick}
use Rattle.rules.specs.Remedy.{effects, remedy}
use Rattle.rules.specs.Sleep.{Entry, entry}
use Rattle.rules.specs.Trace.{happen_kind, plain_tick_kind, guarded_tick_kind, steps_in, run, run_bytes}
use Rattle.rules.specs.History.{Act, executes, passes, after, passes_in, then_pass, history_of}
use Rattle.rules.specs.Deadline.{Duty, Settles, Met}

abbrev pub step : ℕ → ℕ → Step
step kind event = record { kind = kind; event = event }

-- a chain of calls from one marking to another, and its steps; a trace that the runner refuses has none, and so have offered lists
pub data Calls (t : Table) : Marking → List Step → Marking → Type 0 where
  none : {m : Marking} → Calls t m [] m
  happened : {m end : Marking} {steps : List Step} (e : ℕ) (answer : MarkingAnswer) → answer ≡ happen t m e
      → Calls t answer.marking steps end → Calls t m (step happen_kind e ∷ steps) end
  ticked : {m end : Marking} {steps : List Step} (answer : MarkingAnswer) → answer ≡ plain_tick t m
      → Calls t answer.marking steps end → Calls t m (step plain_tick_kind 0 ∷ steps) end
  guardedly : {m end : Marking} {steps : List Step} (answer : GuardedAnswer) → answer ≡ guarded_tick t m
      → Calls t answer.marking steps end → Calls t m (step guarded_tick_kind 0 ∷ steps) end
  ran : {m end : Marking} {steps : List Step} (played : List Step) (room : ℕ) (answer : MarkingAnswer) → answer ≡ run t m played room
      → Calls t answer.marking steps end → Calls t m (done answer.number played [] ++ steps) end
  ran_bytes : {m end : Marking} {steps : List Step} (bytes : List ℕ) (room : ℕ) (answer : MarkingAnswer) → answer ≡ run_bytes t m bytes room
      → Calls t answer.marking steps end → Calls t m (done answer.number (steps_in bytes) [] ++ steps) end
  -- lists are offered and tried; what comes next is handed the same marking
  offered : {m end : Marking} {steps : List Step} (preferred fallback : List ℕ) (answer : RemedyAnswer) → answer ≡ remedy t m preferred fallback
      → Calls t m steps end → Calls t m steps end

-- the events that the answer of a guarded tick lists: the first `count` of its list
abbrev pub listed : GuardedAnswer → List ℕ
listed answer = take answer.count answer.caused

-- what a chain comes to, read off its answers: a call that was refused comes to nothing
unfoldable pub acts_in : {t : Table} {m end : Marking} {steps : List Step} → Calls t m steps end → List Act
acts_in none = []
acts_in (happened e answer is rest) = done answer.number (executes e ∷ []) [] ++ acts_in rest
acts_in (ticked answer is rest) = done answer.number (passes ∷ []) [] ++ acts_in rest
acts_in (guardedly answer is rest) = done answer.number (then_pass (listed answer)) [] ++ acts_in rest
acts_in {t} {m} (ran played room answer is rest) = done answer.number (history_of t m played) [] ++ acts_in rest
acts_in {t} {m} (ran_bytes bytes room answer is rest) = done answer.number (history_of t m (steps_in bytes)) [] ++ acts_in rest
acts_in (offered preferred fallback answer is rest) = acts_in rest

-- What is said of the events that a guarded tick lists, in the words of the calls' answers.
pub record Caused (t : Table) (m : Marking) (events : List ℕ) : Type 0 where
  -- there are none when nothing is due
  pub idle : (due : ℕ) → due ≡ (due_answer t m).set → due ≡ 0 → events ≡ []
  -- otherwise only causable members of the closure, each enabled in the marking at the moment it is executed, after those before it
  pub each : (closed : ℕ) → closed ≡ (closure_answer t m).set → (i e : ℕ) → i < length events → e ≡ get_or events i 0
      → (e < t.events) × (is_causable t e ≡ true) × (has closed e ≡ true) × (is_enabled t (effects t m (take i events)) e ≡ true)
  -- none at two places
  pub once : (i j : ℕ) → i < j → j < length events → get_or events i 0 ≡ get_or events j 0 → ⊥
  -- and after the last of them no event is due
  pub calm : (due : SetAnswer) → due ≡ due_answer t (effects t m events) → (due.number ≡ 0) × (due.set ≡ 0)

-- What the answer of a guarded tick says: the promise, told of its fields.
pub record Ticked (t : Table) (m : Marking) (answer : GuardedAnswer) : Type 0 where
  -- it is not refused; it lists as many events as it counts, with room for them, and the places past them are 0
  pub not_refused : answer.number ≡ 0
  pub counted : length (listed answer) ≡ answer.count
  pub room : answer.count ≤ most_events
  pub past : drop answer.count answer.caused ≡ replicate (most_events - answer.count) 0
  -- they are executed, and then time passes
  pub caused : Caused t m (listed answer)
  pub passed : answer.marking ≡ time (effects t m (listed answer))

-- What a caller is answered at a marking, and along any chain of calls from there.
pub record Answered (t : Table) (m : Marking) : Type 0 where
  -- the check accepts
  pub checked : (answer : CheckAnswer) → answer ≡ check t m → answer ≡ Accepts
  -- a guarded tick keeps its promise
  pub ticks : (answer : GuardedAnswer) → answer ≡ guarded_tick t m → Ticked t m answer
  -- an uncontrollable event that happens is always done
  pub heard : (e : ℕ) (answer : MarkingAnswer) → answer ≡ happen t m e → e < t.events → is_controllable t e ≡ false → answer.number ≡ 0
  -- an included event that is to be done within d ticks, here or at any point of a chain of calls from here, is executed, given a new deadline
  -- or excluded before the (d + 1)th tick from then passes
  pub kept : {end : Marking} {steps : List Step} (calls : Calls t m steps end) (before rest : List Act) → acts_in calls ≡ before ++ rest
      → (x d : ℕ) → x < t.events → Duty (after t m before) x d → d < passes_in rest → Met t (Settles t x) (after t m before) d rest

-- Beside the chains, what is said of minutes slept through: so many guarded ticks
abbrev pub guarded_ticks : ℕ → List Step
guarded_ticks n = replicate n (step guarded_tick_kind 0)

-- the events that a list's places tell of a tick, in the list's order
unfoldable pub events_at : ℕ → List ℕ → List ℕ
events_at tick [] = []
events_at tick (place ∷ places) = cond (eqb (place / 256) tick) (place % 256 ∷ events_at tick places) (events_at tick places)

-- what so many ticks come to, by a list's places: before each tick the events that these tell of it are executed
unfoldable pub ticks_told : ℕ → List ℕ → List Act
ticks_told zero places = []
ticks_told (suc n) places = ticks_told n places ++ then_pass (events_at (suc n) places)

-- the marking after the first n of some guarded ticks, and the events that these list, each with the number of its tick
abbrev pub come_to : Marking → (ℕ → GuardedAnswer) → ℕ → Marking
come_to m answers zero = m
come_to m answers (suc n) = (answers n).marking

unfoldable pub listed_in : (ℕ → GuardedAnswer) → ℕ → List Entry
listed_in answers zero = []
listed_in answers (suc n) = listed_in answers n ++ map (entry (suc n)) (listed (answers n))

-- So many single guarded ticks, each handed the marking that the one before answered.
abbrev pub Singly : Table → Marking → ℕ → (ℕ → GuardedAnswer) → Type 0
Singly t m ticks answers = (i : ℕ) → i < ticks → answers i ≡ guarded_tick t (come_to m answers i)

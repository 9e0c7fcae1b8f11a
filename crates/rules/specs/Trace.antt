-- The trace runner. Steps: 0 or 1 an event happens, 2 plain tick, 3 guarded tick; at most 4,096. Ticks have event 0. One answer byte per step
-- goes to a lent buffer, 0 for done or the refusal number; a refused step leaves the marking and the run goes on. The end marking is returned.
use Rattle.std.specs.Prelude.{Bool, not, ◌&&◌, ◌||◌, cond, List, [], ◌∷◌, ◌++◌, ℕ, ◌+◌, ◌*◌, ◌/◌, ◌%◌, eqb, leb, ltb, length, drop, get_or}
use Rattle.rules.specs.declared.Table.{Table}
use Rattle.rules.specs.declared.Marking.{Marking}
use Rattle.rules.specs.declared.Step.{Step}
use Rattle.rules.specs.Answers.{MarkingAnswer}
use Rattle.rules.specs.Counting.{places}
use Rattle.rules.specs.Numbers.{◌if◌, ◌else◌, done, check_number}
use Rattle.rules.specs.Judge.{judged}
use Rattle.rules.specs.Effect.{effect}
use Rattle.rules.specs.Time.{time, plain_tick_number}
use Rattle.rules.specs.Happen.{happen_number}
use Rattle.rules.specs.Check.{verdict}
use Rattle.rules.specs.Guard.{guarded}

-- the kinds of step, in order: the first two both mean that an event happens, two are ticks
abbrev pub happen_kind : ℕ
happen_kind = 0

abbrev pub last_happen_kind : ℕ
last_happen_kind = 1

abbrev pub plain_tick_kind : ℕ
plain_tick_kind = 2

abbrev pub guarded_tick_kind : ℕ
guarded_tick_kind = 3

-- a trace has at most so many steps
abbrev pub most_steps : ℕ
most_steps = 4096

-- a kind above the last, or a tick with event not 0
abbrev pub wrong_step : ℕ → ℕ → Bool
wrong_step kind event = ltb guarded_tick_kind kind || leb plain_tick_kind kind && not (eqb event 0)

-- 15, and then what the step's own kind gives
unfoldable pub step_number : Table → Marking → Step → ℕ
step_number t m s =
    15 if wrong_step s.kind s.event
    else cond (leb s.kind last_happen_kind) (happen_number t m s.event)
    (cond (eqb s.kind plain_tick_kind) (plain_tick_number m) (check_number (verdict t m)))

-- the marking after a step that is done
unfoldable pub step_done : Table → Marking → Step → Marking
step_done t m s = cond (leb s.kind last_happen_kind) (effect t m s.event) (cond (eqb s.kind plain_tick_kind) (time m) (guarded t m))

unfoldable pub stepped : Table → Marking → Step → Marking
stepped t m s = done (step_number t m s) (step_done t m s) m

-- the end marking of a trace, and its answers
unfoldable pub end_of : Table → Marking → List Step → Marking
end_of t m [] = m
end_of t m (s ∷ rest) = end_of t (stepped t m s) rest

unfoldable pub answers_of : Table → Marking → List Step → List ℕ
answers_of t m [] = []
answers_of t m (s ∷ rest) = step_number t m s ∷ answers_of t (stepped t m s) rest

-- the whole trace, for a buffer of so many bytes: 14
unfoldable pub trace_number : ℕ → ℕ → ℕ
trace_number steps room = 14 if (ltb most_steps steps || ltb room steps)

abbrev pub run_number : Table → Marking → List Step → ℕ → ℕ
run_number t m steps room = judged t m else trace_number (length steps) room

unfoldable pub run : Table → Marking → List Step → ℕ → MarkingAnswer
run t m steps room =
    let number = run_number t m steps room in
    record { number = number; marking = done number (end_of t m steps) m }

-- what the lent buffer holds afterwards: an answer byte for each step, and later bytes stay
unfoldable pub run_answers : Table → Marking → List Step → List ℕ → List ℕ
run_answers t m steps buffer =
    done (run_number t m steps (length buffer)) (answers_of t m steps ++ drop (length steps) buffer) buffer

-- Steps of 2 bytes (kind, event); an odd last byte gives 1, before 14
unfoldable pub steps_in : List ℕ → List Step
steps_in bytes = places (length bytes / 2) (λ i. record { kind = get_or bytes (2 * i) 0; event = get_or bytes (2 * i + 1) 0 })

abbrev pub bytes_number : Table → Marking → List ℕ → ℕ → ℕ
bytes_number t m bytes room = judged t m else 1 if eqb (length bytes % 2) 1 else trace_number (length bytes / 2) room

unfoldable pub run_bytes : Table → Marking → List ℕ → ℕ → MarkingAnswer
run_bytes t m bytes room =
    let number = bytes_number t m bytes room in
    record { number = number; marking = done number (end_of t m (steps_in bytes)) m }

unfoldable pub run_bytes_answers : Table → Marking → List ℕ → List ℕ → List ℕ
run_bytes_answers t m bytes buffer =
    done (bytes_number t m bytes (length buffer)) (answers_of t m (steps_in bytes) ++ drop (length bytes / 2) buffer) buffer

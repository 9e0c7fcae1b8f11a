-- What the station writes, part by part, for the functions within its call. What the call promises stands in `Station` of the crate `rules`.
use Rattle.std.specs.Prelude.{◌≡◌, Result, Ok, Err, List, [], ◌∷◌, ◌++◌, ℕ, ◌+◌, ◌*◌, ◌/◌, ◌%◌, eqb, length, take, drop}
use Rattle.rules.specs.declared.Table.{Table}
use Rattle.rules.specs.declared.Marking.{Marking}
use Rattle.rules.specs.declared.refusal.Refusal.{Refusal}
use Rattle.rules.specs.Results.{refusal_number}
use Rattle.duties.specs.AtStart.{AtStart}
use Rattle.rules.specs.Numbers.{◌if◌, ◌else◌, done}
use Rattle.rules.specs.Judge.{judged}
use Rattle.rules.specs.Image.{record_bytes, read_marking, marking_image}
use Rattle.rules.specs.Trace.{trace_number, steps_in, end_of, answers_of}

-- what is written once the marking is read, for the kept step bytes and so many beyond
unfoldable pub after_marking : Table → Marking → List ℕ → ℕ → List ℕ
after_marking t m kept beyond =
    let steps = length kept + beyond in
    let number = judged t m else 1 if eqb (steps % 2) 1 else trace_number (steps / 2) (steps / 2) in
    done number (answers_of t m (steps_in kept) ++ marking_image (end_of t m (steps_in kept))) (number ∷ [])

-- what is written once the table is read
unfoldable pub after_table : Table → List ℕ → ℕ → List ℕ
after_table t rest beyond =
    let size = record_bytes * t.events in
    let read = read_marking t.events (take size rest) in
    done read.number (after_marking t read.marking (drop size rest) beyond) (read.number ∷ [])

-- What is to be written stands at the start of what was before, and is counted; or it is the one byte of a refusal, and nothing is written yet.
abbrev pub Heard : List ℕ → List ℕ → Result ℕ Refusal → List ℕ → Type 0
Heard bytes before (Ok count) after = AtStart bytes before count after
Heard bytes before (Err refusal) after = (bytes ≡ refusal_number refusal ∷ []) × (after ≡ before)

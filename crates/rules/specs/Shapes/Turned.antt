-- What one step answers.
use Rattle.std.specs.Prelude.{ℕ}
use Rattle.rules.specs.declared.Table.{Table}
use Rattle.rules.specs.declared.Marking.{Marking}
use Rattle.rules.specs.declared.Step.{Step}
use Rattle.rules.specs.Answers.{MarkingAnswer}
use Rattle.rules.specs.Trace.{step_number, stepped}

-- its number, and the marking after it
unfoldable pub turned : Table → Marking → ℕ → ℕ → MarkingAnswer
turned t m kind event =
    let s : Step = record { kind = kind; event = event } in
    record { number = step_number t m s; marking = stepped t m s }

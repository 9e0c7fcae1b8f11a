-- An event happens: whatever its class, it is executed if enabled.
use Rattle.std.specs.Prelude.{not, ℕ}
use Rattle.rules.specs.declared.Table.{Table}
use Rattle.rules.specs.declared.Marking.{Marking}
use Rattle.rules.specs.Answers.{MarkingAnswer}
use Rattle.rules.specs.Numbers.{◌if◌, ◌else◌, done}
use Rattle.rules.specs.Judge.{judged, event_number}
use Rattle.rules.specs.Enabled.{is_enabled}
use Rattle.rules.specs.Effect.{effect}

-- 8, 10
unfoldable pub happen_number : Table → Marking → ℕ → ℕ
happen_number t m e = event_number t e else 10 if not (is_enabled t m e)

unfoldable pub happen : Table → Marking → ℕ → MarkingAnswer
happen t m e =
    let number = judged t m else happen_number t m e in
    record { number = number; marking = done number (effect t m e) m }

-- Quiet: how many guarded ticks can pass before one finds an event due; the most that one call passes, where there are that many or no deadline
-- runs. While nothing is due a guarded tick is time that passes, and nothing else. The check is not asked.
use Rattle.std.specs.Prelude.{ℕ}
use Rattle.rules.specs.declared.Table.{Table}
use Rattle.rules.specs.declared.Marking.{Marking}
use Rattle.rules.specs.Answers.{TicksAnswer}
use Rattle.rules.specs.Counting.{lowest, repeated}
use Rattle.rules.specs.Numbers.{done}
use Rattle.rules.specs.Judge.{judged}
use Rattle.rules.specs.Time.{any_due, time}
use Rattle.rules.specs.Sleep.{most_ticks}

-- of so many ticks, how many pass before an event is due
unfoldable pub quiet_ticks : Marking → ℕ → ℕ
quiet_ticks m most = lowest most (λ i. any_due (repeated i time m))

unfoldable pub quiet_answer : Table → Marking → TicksAnswer
quiet_answer t m = let number = judged t m in record { number = number; ticks = done number (quiet_ticks m most_ticks) 0 }

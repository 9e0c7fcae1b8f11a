-- The margin of a condition. One whose right event is excluded is ignored; the rest is what it would answer if that event were included.
use Rattle.std.specs.Prelude.{ℕ, ℤ}
use Rattle.rules.specs.Rest.{Rest}

pub data MarginAnswer : Type 0 where
  Refused : ℕ → MarginAnswer
  NotACondition : MarginAnswer
  Ignored : Rest → MarginAnswer
  Never : MarginAnswer
  By : ℤ → MarginAnswer

-- What holds an event up. Enabled unless: the relation would block if its right event were included.
use Rattle.std.specs.Prelude.{ℕ}

pub data HoldUpAnswer : Type 0 where
  Refused : ℕ → HoldUpAnswer
  Enabled : HoldUpAnswer
  EnabledUnless : ℕ → HoldUpAnswer
  Excluded : HoldUpAnswer
  Blocked : ℕ → HoldUpAnswer

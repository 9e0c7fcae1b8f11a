-- What the static check answers. A rejection has the reason and the place: an event for reasons 1, 2 and 4, else a relation.
use Rattle.std.specs.Prelude.{ℕ}

pub data CheckAnswer : Type 0 where
  Refused : ℕ → CheckAnswer
  Accepts : CheckAnswer
  Rejects : ℕ → ℕ → CheckAnswer

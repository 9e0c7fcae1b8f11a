-- What a condition with an included right event answers.
use Rattle.std.specs.Prelude.{ℤ}

pub data Rest : Type 0 where
  Never : Rest
  By : ℤ → Rest

-- A list that is written to the start of a lent one.
use Rattle.std.specs.Prelude.{◌≡◌, List, ◌++◌, ℕ, length, drop}

-- the bytes are put at the start of what was before, and counted
pub record AtStart (bytes before : List ℕ) (count : ℕ) (after : List ℕ) : Type 0 where
  pub counted : count ≡ length bytes
  pub put : after ≡ bytes ++ drop (length bytes) before

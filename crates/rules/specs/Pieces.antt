-- Pieces of bytes, joined: an image's classes, relations or records, one behind the other.
use Rattle.std.specs.Prelude.{List, [], ◌++◌, ℕ, zero, suc}

-- n pieces from piece `at` on
unfoldable pub pieces : (ℕ → List ℕ) → ℕ → ℕ → List ℕ
pieces f at zero = []
pieces f at (suc n) = f at ++ pieces f (suc at) n

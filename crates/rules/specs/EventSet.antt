-- An event set fits one 64-bit word: event n is the bit worth 2 ^ n.
-- The engine reports how many events a set holds and which is the lowest, 64 for none.
use Rattle.std.specs.Prelude.{Bool, cond, ℕ, zero, suc, ◌+◌, ◌/◌, ◌%◌, ◌^◌, eqb}
use Rattle.rules.specs.Counting.{lowest, how_many}

-- event n is in the set
unfoldable pub has : ℕ → ℕ → Bool
has set n = eqb (set / 2 ^ n % 2) 1

-- the set with an event, whether or not it was there
unfoldable pub with_event : ℕ → ℕ → ℕ
with_event set n = cond (has set n) set (set + 2 ^ n)

-- the events below n at which f holds
unfoldable pub set_of : ℕ → (ℕ → Bool) → ℕ
set_of zero f = 0
set_of (suc k) f = set_of k f + cond (f k) (2 ^ k) 0

-- how many events the set holds
unfoldable pub size_of : ℕ → ℕ
size_of set = how_many 64 (has set)

-- the lowest event of the set, 64 for none
unfoldable pub lowest_of : ℕ → ℕ
lowest_of set = lowest 64 (has set)

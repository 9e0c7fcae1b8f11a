-- The marking that words stand for. The sets are happened, included, pending and bounded. The columns hold ticks of a clock: at which the age
-- of event e is full (place e), and at which its deadline is over (place 64 + e); and its count (place 128 + e). So a tick moves the clock and
-- nothing else.
use Rattle.std.specs.Prelude.{◌≡◌, Bool, cond, ◌&&◌, List, ◌++◌, ℕ, ◌<◌, ◌≤◌, ◌+◌, ◌-◌, ltb, length, get_or}
use Rattle.rules.specs.declared.Record.{Record}
use Rattle.rules.specs.declared.Marking.{Marking}
use Rattle.rules.specs.Counting.{places}
use Rattle.rules.specs.EventSet.{has}
use Rattle.rules.specs.Holds.{limit}

-- the age of an event that has happened: as many ticks below the limit as the clock has still to go
abbrev pub age_at : ℕ → List ℕ → ℕ → ℕ
age_at clock columns e = limit - (get_or columns e 0 - clock)

-- the ticks that a bounded event still has
abbrev pub ticks_at : ℕ → List ℕ → ℕ → ℕ
ticks_at clock columns e = get_or columns (64 + e) 0 - clock

unfoldable pub record_in : ℕ → List ℕ → List ℕ → ℕ → Record
record_in clock sets columns e = record {
  age = cond (has (get_or sets 0 0) e) (age_at clock columns e) 0;
  deadline = cond (has (get_or sets 3 0) e) (ticks_at clock columns e) 0;
  happened = has (get_or sets 0 0) e;
  included = has (get_or sets 1 0) e;
  pending = has (get_or sets 2 0) e;
  bounded = has (get_or sets 3 0) e;
  count = get_or columns (128 + e) 0;
}

-- n events, and behind them the places that are not used
unfoldable pub marking_in : ℕ → List Record → ℕ → List ℕ → List ℕ → Marking
marking_in n tail clock sets columns = record { records = places n (record_in clock sets columns) ++ tail; events = n }

-- The words stand for a marking. No age of an event is full later than the limit from now: it would be below 0.
pub record Stands (n : ℕ) (tail : List Record) (clock : ℕ) (sets columns : List ℕ) (m : Marking) : Type 0 where
  pub few : n ≤ 64
  pub four_sets : length sets ≡ 4
  pub three_columns : length columns ≡ 192
  pub ages_begun : (x : ℕ) → x < n → get_or columns x 0 ≤ clock + limit
  pub is : m ≡ marking_in n tail clock sets columns

-- of n events one that is included, pending and bounded
abbrev pub may_be_due : List ℕ → ℕ → ℕ → Bool
may_be_due sets n x = ((has (get_or sets 1 0) x && has (get_or sets 2 0) x) && has (get_or sets 3 0) x) && ltb x n

-- What would be if an event were included, and all else as it is.
use Rattle.std.specs.Prelude.{Bool, true, cond, ℕ, eqb}
use Rattle.rules.specs.declared.Record.{Record}
use Rattle.rules.specs.declared.Marking.{Marking}
use Rattle.rules.specs.Counting.{places}
use Rattle.rules.specs.Holds.{most_events, record_of, with_records}

-- a record with its event included, or not
abbrev pub with_included : Bool → Record → Record
with_included included r = record {
  age = r.age;
  deadline = r.deadline;
  happened = r.happened;
  included = included;
  pending = r.pending;
  bounded = r.bounded;
  count = r.count;
}

abbrev pub as_included : Record → Record
as_included r = with_included true r

-- a marking with event x included
unfoldable pub including : ℕ → Marking → Marking
including x m = with_records m (places most_events (λ e. cond (eqb e x) (as_included (record_of m e)) (record_of m e)))

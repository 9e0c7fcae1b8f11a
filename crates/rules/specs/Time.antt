-- Due. Included, pending, bounded, deadline 0.
-- Time. Every happened event's age grows by 1, held at the limit. Every bounded deadline falls by 1, not below 0, for excluded events also.
-- A plain tick is refused exactly while some event is due.
use Rattle.std.specs.Prelude.{Bool, ◌&&◌, cond, ℕ, ◌+◌, ◌-◌, min, eqb}
use Rattle.rules.specs.declared.Table.{Table}
use Rattle.rules.specs.declared.Record.{Record}
use Rattle.rules.specs.declared.Marking.{Marking}
use Rattle.rules.specs.Answers.{SetAnswer, MarkingAnswer}
use Rattle.rules.specs.Counting.{some, each_below}
use Rattle.rules.specs.Numbers.{◌if◌, ◌else◌, done}
use Rattle.rules.specs.EventSet.{set_of}
use Rattle.rules.specs.Holds.{limit, record_of, with_records}
use Rattle.rules.specs.Judge.{judged}

unfoldable pub is_due : Record → Bool
is_due r = r.included && (r.pending && (r.bounded && eqb r.deadline 0))

-- some event is due
unfoldable pub any_due : Marking → Bool
any_due m = some m.events (λ e. is_due (record_of m e))

-- the due events
unfoldable pub due_set : Marking → ℕ
due_set m = set_of m.events (λ e. is_due (record_of m e))

unfoldable pub due_answer : Table → Marking → SetAnswer
due_answer t m = let number = judged t m in record { number = number; set = done number (due_set m) 0 }

-- a record one tick later
unfoldable pub later : Record → Record
later r = record {
  age = cond r.happened (min (r.age + 1) limit) r.age;
  deadline = cond r.bounded (r.deadline - 1) r.deadline;
  happened = r.happened;
  included = r.included;
  pending = r.pending;
  bounded = r.bounded;
  count = r.count;
}

unfoldable pub time : Marking → Marking
time m = with_records m (each_below m.events (λ e. later) m.records)

unfoldable pub plain_tick_number : Marking → ℕ
plain_tick_number m = 11 if any_due m

unfoldable pub plain_tick : Table → Marking → MarkingAnswer
plain_tick t m =
    let number = judged t m else plain_tick_number m in
    record { number = number; marking = done number (time m) m }

-- Carrying over: a marking image of the time before counts has 8 bytes per event, which are a record's fields before its count. The new record
-- has the same fields, and count 1 if the event has happened, else 0.
use Rattle.std.specs.Prelude.{not, List, ℕ, ◌*◌, eqb, length}
use Rattle.rules.specs.declared.Record.{Record}
use Rattle.rules.specs.declared.Marking.{Marking}
use Rattle.rules.specs.Numbers.{◌if◌, ◌else◌, done}
use Rattle.rules.specs.Fields.{flag, bit}
use Rattle.rules.specs.Judge.{events_fit}
use Rattle.rules.specs.Image.{state_at, marking_from, write_number, write_marking}

abbrev pub old_record_bytes : ℕ
old_record_bytes = 8

abbrev pub old_record_bit : ℕ → ℕ
old_record_bit e = 8 * (old_record_bytes * e)

unfoldable pub carried_at : List ℕ → ℕ → Record
carried_at old p = state_at old p (bit (flag old p))

-- the marking of an old image
unfoldable pub carried : ℕ → List ℕ → Marking
carried events old = marking_from events (λ e. carried_at old (old_record_bit e))

-- 3, 1, and then as that marking is written: 7, 14
unfoldable pub carry_number : ℕ → List ℕ → ℕ → ℕ
carry_number events old room =
    3 if not (events_fit events)
    else 1 if not (eqb (length old) (old_record_bytes * events))
    else write_number (carried events old) room

-- what the lent buffer holds afterwards: the new records first, and later bytes stay
unfoldable pub carry_marking : ℕ → List ℕ → List ℕ → List ℕ
carry_marking events old buffer = done (carry_number events old (length buffer)) (write_marking (carried events old) buffer) buffer

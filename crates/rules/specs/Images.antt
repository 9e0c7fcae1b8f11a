-- The calls for C. Each is handed a table image and a marking image. What it answers about is what they are read as; the number of reading
-- them, table first, comes before any number of its own.
use Rattle.std.specs.Prelude.{◌||◌, cond, List, [], ◌∷◌, ◌++◌, ℕ, eqb, ltb, length, drop}
use Rattle.rules.specs.declared.Table.{Table}
use Rattle.rules.specs.declared.Record.{Record}
use Rattle.rules.specs.declared.Marking.{Marking}
use Rattle.rules.specs.Numbers.{◌if◌, ◌else◌, done}
use Rattle.rules.specs.Holds.{record_of}
use Rattle.rules.specs.Fields.{bit}
use Rattle.rules.specs.Judge.{event_number}
use Rattle.rules.specs.Image.{read_table, read_marking, marking_image}

unfoldable pub table_of : List ℕ → Table
table_of table = (read_table table).table

-- for the table's events
unfoldable pub marking_of : List ℕ → List ℕ → Marking
marking_of table marking = (read_marking (table_of table).events marking).marking

unfoldable pub images_number : List ℕ → List ℕ → ℕ
images_number table marking = (read_table table).number else (read_marking (table_of table).events marking).number

-- a rule, of what the images are read as
module _ {A : Type 0} where
  abbrev pub on : (Table → Marking → A) → List ℕ → List ℕ → A
  on rule table marking = rule (table_of table) (marking_of table marking)

-- what the marking's buffer holds after a call that acts: the new marking's image where it is done, and else the bytes that were handed in
abbrev pub put_back : ℕ → Marking → List ℕ → List ℕ
put_back number m buffer = done number (marking_image m) buffer

-- what reason or place holds after minutes slept through: what the check said with 0 and with 12; any other number leaves it
unfoldable pub verdict_told : ℕ → ℕ → ℕ → ℕ
verdict_told number said before = cond (eqb number 0 || eqb number 12) said before

-- the numbers before a guarded tick's own: of reading, and 14 for a buffer without room for each of the table's events
unfoldable pub guard_number : List ℕ → List ℕ → ℕ → ℕ
guard_number table marking room = images_number table marking else 14 if ltb room (table_of table).events

-- the record of an event, field by field in the image's order: happened, age, included, pending, bounded, deadline, count
abbrev pub record_fields : Record → List ℕ
record_fields r = bit r.happened ∷ r.age ∷ bit r.included ∷ bit r.pending ∷ bit r.bounded ∷ r.deadline ∷ r.count ∷ []

-- 8 for an event that does not exist, then 14 for fewer places than fields
unfoldable pub fields_number : List ℕ → List ℕ → ℕ → ℕ → ℕ
fields_number table marking event room = images_number table marking else event_number (table_of table) event else 14 if ltb room 7

-- what the lent places hold afterwards: the fields first, and later places stay
unfoldable pub fields_told : List ℕ → List ℕ → ℕ → List ℕ → List ℕ
fields_told table marking event places =
    done (fields_number table marking event (length places)) (record_fields (record_of (marking_of table marking) event) ++ drop 7 places) places

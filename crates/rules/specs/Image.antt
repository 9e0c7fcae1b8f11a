-- The images: reading and writing a table, reading and writing a marking, the fresh marking.
use Rattle.std.specs.Prelude.{Bool, true, false, not, ◌&&◌, List, ◌++◌, ℕ, ◌+◌, ◌-◌, ◌*◌, ◌^◌, ◌<◌, eqb, ltb, length, drop, replicate}
use Rattle.rules.specs.declared.Relation.{Relation}
use Rattle.rules.specs.declared.Table.{Table}
use Rattle.rules.specs.declared.Record.{Record}
use Rattle.rules.specs.declared.Marking.{Marking}
use Rattle.rules.specs.Answers.{TableAnswer, MarkingAnswer}
use Rattle.rules.specs.Counting.{places}
use Rattle.rules.specs.Numbers.{◌if◌, ◌else◌, first_of, done}
use Rattle.rules.specs.EventSet.{set_of}
use Rattle.rules.specs.Holds.{most_events, most_relations, empty_relation, empty_record, empty_table, empty_marking, relation_of, record_of}
use Rattle.rules.specs.Holds.{is_controllable, is_causable}
use Rattle.rules.specs.Fields.{field, flag, ◌▸◌, ◌∶◌, bit, bytes_of}
use Rattle.rules.specs.Pieces.{pieces}
use Rattle.rules.specs.Judge.{events_fit, relations_fit, relation_number, table_number, record_number, marking_number}

-- Table image. Header, 4 bytes: events 7 bits, relations 9 bits, firm 1, spare 15
abbrev pub events_in : List ℕ → ℕ
events_in image = field image 0 7

abbrev pub relations_in : List ℕ → ℕ
relations_in image = field image 7 9

abbrev pub firm_in : List ℕ → Bool
firm_in image = flag image 16

abbrev pub header_spare : List ℕ → ℕ
header_spare image = field image 17 15

-- one byte per event: controllable 1, causable 1, spare 6
abbrev pub class_bit : ℕ → ℕ
class_bit e = 8 * (4 + e)

abbrev pub class_spare : List ℕ → ℕ → ℕ
class_spare image e = field image (class_bit e + 2) 6

-- 6 bytes per relation: kind 3, left 6, right 6, bounded 1, time 30, spare 2
abbrev pub relation_bit : ℕ → ℕ → ℕ
relation_bit events k = 8 * (4 + events + 6 * k)

unfoldable pub relation_at : List ℕ → ℕ → Relation
relation_at image p = record {
  kind = field image p 3;
  left = field image (p + 3) 6;
  right = field image (p + 9) 6;
  bounded = flag image (p + 15);
  time = field image (p + 16) 30;
}

abbrev pub relation_spare : List ℕ → ℕ → ℕ
relation_spare image p = field image (p + 46) 2

-- how long the header says the image is
abbrev pub table_length : ℕ → ℕ → ℕ
table_length events relations = 4 + events + 6 * relations

-- a relation of the image: 2, 4, 5, 6
unfoldable pub relation_image_number : List ℕ → ℕ → ℕ → ℕ
relation_image_number image events p = 2 if not (eqb (relation_spare image p) 0) else relation_number events (relation_at image p)

-- 1 under 4 bytes; 2 and 3 on the header; 1; 2 on the classes in order; then each relation in order
unfoldable pub table_image_number : List ℕ → ℕ
table_image_number image =
    let n = events_in image in
    let relations = relations_in image in
    1 if ltb (length image) 4
    else 2 if not (eqb (header_spare image) 0)
    else 3 if not (events_fit n && relations_fit relations)
    else 1 if not (eqb (length image) (table_length n relations))
    else first_of n (λ e. 2 if not (eqb (class_spare image e) 0))
    else first_of relations (λ k. relation_image_number image n (relation_bit n k))

-- a table of so many events and relations, each told by its number, its unused places empty
abbrev pub table_with : ℕ → ℕ → Bool → (ℕ → Relation) → (ℕ → Bool) → (ℕ → Bool) → Table
table_with events count firm relation controllable causable = record {
  relations = places count relation ++ replicate (most_relations - count) empty_relation;
  controllable = set_of events controllable;
  causable = set_of events causable;
  events = events;
  count = count;
  firm = firm;
}

-- the table of an image
unfoldable pub table_in : List ℕ → Table
table_in image =
    let n = events_in image in
    table_with n (relations_in image) (firm_in image) (λ k. relation_at image (relation_bit n k)) (λ e. flag image (class_bit e)) (λ e. flag image (class_bit e + 1))

unfoldable pub read_table : List ℕ → TableAnswer
read_table image = let number = table_image_number image in record { number = number; table = done number (table_in image) empty_table }

-- The header, the classes of an event and a relation in their bytes; spare bits are 0
unfoldable pub header_image : Table → List ℕ
header_image t = bytes_of 4 (t.events ▸ 9 ∶ t.count ▸ 1 ∶ bit t.firm ▸ 15 ∶ 0)

abbrev pub class_byte : Table → ℕ → ℕ
class_byte t e = bit (is_controllable t e) ▸ 1 ∶ bit (is_causable t e) ▸ 6 ∶ 0

unfoldable pub class_image : Table → ℕ → List ℕ
class_image t e = bytes_of 1 (class_byte t e)

unfoldable pub relation_image : Relation → List ℕ
relation_image k = bytes_of 6 (k.kind ▸ 6 ∶ k.left ▸ 6 ∶ k.right ▸ 1 ∶ bit k.bounded ▸ 30 ∶ k.time ▸ 2 ∶ 0)

-- header, then the classes in order, then the relations in order
abbrev pub place_image : Table → ℕ → List ℕ
place_image t k = relation_image (relation_of t k)

abbrev pub table_image : Table → List ℕ
table_image t = header_image t ++ pieces (class_image t) 0 t.events ++ pieces (place_image t) 0 t.count

-- a table written into a buffer of so many bytes: 3, then each relation in order, as the reader has them; then 14
unfoldable pub write_table_number : Table → ℕ → ℕ
write_table_number t room = table_number t else 14 if ltb room (table_length t.events t.count)

-- what the lent buffer holds afterwards: the table first, and later bytes stay
unfoldable pub write_table : Table → List ℕ → List ℕ
write_table t buffer =
    done (write_table_number t (length buffer)) (table_image t ++ drop (table_length t.events t.count) buffer) buffer

-- an image can hold the table: each of its numbers fits its field
pub record FieldsHold (k : Relation) : Type 0 where
  pub kind_fits : k.kind < 2 ^ 3
  pub left_fits : k.left < 2 ^ 6
  pub right_fits : k.right < 2 ^ 6
  pub time_fits_lem : k.time < 2 ^ 30

pub record ImageHolds (t : Table) : Type 0 where
  pub events_fit_lem : t.events < 2 ^ 7
  pub count_fits : t.count < 2 ^ 9
  pub relations_fit_lem : (k : ℕ) → k < t.count → FieldsHold (relation_of t k)

-- a table with its unused places empty: relations past the count, and class bits of events past the event count
unfoldable pub unused_empty : Table → Table
unused_empty t = table_with t.events t.count t.firm (relation_of t) (is_controllable t) (is_causable t)

-- Marking image: 12 bytes per event, no header: happened 1, age 30, included 1, pending 1, bounded 1, deadline 30, count 32
abbrev pub record_bytes : ℕ
record_bytes = 12

-- the fields before the count, beside a count
abbrev pub state_at : List ℕ → ℕ → ℕ → Record
state_at image p count = record {
  age = field image (p + 1) 30;
  deadline = field image (p + 34) 30;
  happened = flag image p;
  included = flag image (p + 31);
  pending = flag image (p + 32);
  bounded = flag image (p + 33);
  count = count;
}

unfoldable pub record_at : List ℕ → ℕ → Record
record_at image p = state_at image p (field image (p + 64) 32)

abbrev pub record_bit : ℕ → ℕ
record_bit e = 8 * (record_bytes * e)

-- 3 first, then 1, then 7
unfoldable pub marking_image_number : ℕ → List ℕ → ℕ
marking_image_number events image =
    3 if not (events_fit events)
    else 1 if not (eqb (length image) (record_bytes * events))
    else first_of events (λ e. record_number (record_at image (record_bit e)))

-- so many records, and event places past the count empty
abbrev pub marking_from : ℕ → (ℕ → Record) → Marking
marking_from events f = record { records = places events f ++ replicate (most_events - events) empty_record; events = events }

unfoldable pub read_marking : ℕ → List ℕ → MarkingAnswer
read_marking events image =
    let number = marking_image_number events image in
    record { number = number; marking = done number (marking_from events (λ e. record_at image (record_bit e))) empty_marking }

-- a record in its bytes
unfoldable pub record_image : Record → List ℕ
record_image r =
    bytes_of record_bytes
    (bit r.happened ▸ 30 ∶ r.age ▸ 1 ∶ bit r.included ▸ 1 ∶ bit r.pending ▸ 1 ∶ bit r.bounded ▸ 30 ∶ r.deadline ▸ 32 ∶ r.count)

-- the record of event e, and the records of a marking in order
abbrev pub event_image : Marking → ℕ → List ℕ
event_image m e = record_image (record_of m e)

abbrev pub marking_image : Marking → List ℕ
marking_image m = pieces (event_image m) 0 m.events

-- a marking written alone into a buffer of so many bytes: 3, 7, 14
unfoldable pub write_number : Marking → ℕ → ℕ
write_number m room = marking_number m else 14 if ltb room (record_bytes * m.events)

-- what the lent buffer holds afterwards: the records first, and later bytes stay
unfoldable pub write_marking : Marking → List ℕ → List ℕ
write_marking m buffer = done (write_number m (length buffer)) (marking_image m ++ drop (record_bytes * m.events) buffer) buffer

-- A fresh marking: not happened, included, not pending, count 0; 0 or above 64 events gives 3
abbrev pub fresh_record : Record
fresh_record = record { age = 0; deadline = 0; happened = false; included = true; pending = false; bounded = false; count = 0 }

unfoldable pub fresh : ℕ → MarkingAnswer
fresh events =
    let number = 3 if not (events_fit events) in
    record { number = number; marking = done number (marking_from events (λ e. fresh_record)) empty_marking }

-- The definitions of the readers, cut where the functions are: the records and the relations by themselves, each with the first number that one
-- gives, and what is read where none does.
use Rattle.std.specs.Prelude.{Bool, not, List, ◌++◌, ℕ, ◌+◌, ◌-◌, eqb, replicate}
use Rattle.rules.specs.declared.Table.{Table}
use Rattle.rules.specs.declared.Marking.{Marking}
use Rattle.rules.specs.Counting.{places}
use Rattle.rules.specs.Numbers.{◌if◌, first_of}
use Rattle.rules.specs.Holds.{most_relations, empty_relation}
use Rattle.rules.specs.Fields.{flag}
use Rattle.rules.specs.Judge.{record_number}
use Rattle.rules.specs.Image.{record_at, record_bit, marking_from, class_bit, class_spare, relation_at, relation_bit, relation_image_number}
use Rattle.image.specs.declared.header.Header.{Header}
use Rattle.image.specs.declared.classes.Classes.{Classes}

-- the classes of so many events, or the number of a spare bit
abbrev pub class_number : List ℕ → ℕ → ℕ
class_number image e = 2 if not (eqb (class_spare image e) 0)

abbrev pub is_controllable_in : List ℕ → ℕ → Bool
is_controllable_in image e = flag image (class_bit e)

abbrev pub is_causable_in : List ℕ → ℕ → Bool
is_causable_in image e = flag image (class_bit e + 1)

abbrev pub records_number : ℕ → List ℕ → ℕ
records_number events image = first_of events (λ e. record_number (record_at image (record_bit e)))

abbrev pub records_in : ℕ → List ℕ → Marking
records_in events image = marking_from events (λ e. record_at image (record_bit e))

abbrev pub relations_number : List ℕ → ℕ → ℕ → ℕ
relations_number image events count = first_of count (λ k. relation_image_number image events (relation_bit events k))

-- the relations beside a header and classes
abbrev pub table_beside : List ℕ → Header → Classes → Table
table_beside image header classes = record {
  relations = places header.count (λ k. relation_at image (relation_bit header.events k)) ++ replicate (most_relations - header.count) empty_relation;
  controllable = classes.controllable;
  causable = classes.causable;
  events = header.events;
  count = header.count;
  firm = header.firm;
}

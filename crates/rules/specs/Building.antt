-- A table built from plain numbers, and told back in them: for C, where nobody holds a decoded table. Firm is 0 or 1; a class is the image's byte;
-- a relation is five numbers: kind, left, right, bounded, time.
use Rattle.std.specs.Prelude.{◌≡◌, not, ◌&&◌, List, [], ◌∷◌, ◌++◌, ℕ, ◌+◌, ◌*◌, ◌/◌, ◌<◌, eqb, ltb, length, get_or, take, drop}
use Rattle.rules.specs.declared.Relation.{Relation}
use Rattle.rules.specs.declared.Table.{Table}
use Rattle.rules.specs.Numbers.{◌if◌, ◌else◌, first_of, done}
use Rattle.rules.specs.Holds.{relation_of}
use Rattle.rules.specs.Fields.{field, flag, bit}
use Rattle.rules.specs.Judge.{events_fit, relations_fit, relation_number, event_number}
use Rattle.rules.specs.Image.{table_length, table_with, table_image, read_table, class_byte}
use Rattle.rules.specs.Images.{table_of}

-- how many relations so many numbers are
abbrev pub relations_told : List ℕ → ℕ
relations_told numbers = length numbers / 5

-- number i of relation k
abbrev pub number_in : List ℕ → ℕ → ℕ → ℕ
number_in numbers k i = get_or numbers (5 * k + i) 0

unfoldable pub relation_from : List ℕ → ℕ → Relation
relation_from numbers k = record {
  kind = number_in numbers k 0;
  left = number_in numbers k 1;
  right = number_in numbers k 2;
  bounded = eqb (number_in numbers k 3) 1;
  time = number_in numbers k 4;
}

-- a relation's numbers as they stand: 4, 5, 6; 6 also where bounded is neither 0 nor 1
unfoldable pub numbers_number : ℕ → List ℕ → ℕ → ℕ
numbers_number events numbers k = relation_number events (relation_from numbers k) else 6 if ltb 1 (number_in numbers k 3)

-- the table that is told, unused places empty
unfoldable pub table_from : ℕ → ℕ → List ℕ → List ℕ → Table
table_from events firm classes numbers =
    table_with events (relations_told numbers) (eqb firm 1) (relation_from numbers) (λ e. flag classes (8 * e)) (λ e. flag classes (8 * e + 1))

-- 2 where firm is neither 0 nor 1; 3, events and relations; 1, a byte for each event and five numbers for each relation; 2 on the classes in
-- order; each relation in order; 14
unfoldable pub build_number : ℕ → ℕ → List ℕ → List ℕ → ℕ → ℕ
build_number events firm classes numbers room =
    let relations = relations_told numbers in
    2 if ltb 1 firm
    else 3 if not (events_fit events && relations_fit relations)
    else 1 if not (eqb (length classes) events && eqb (length numbers) (5 * relations))
    else first_of events (λ e. 2 if not (eqb (field classes (8 * e + 2) 6) 0))
    else first_of relations (numbers_number events numbers)
    else 14 if ltb room (table_length events relations)

-- what the lent buffer holds afterwards: the table's image first, and later bytes stay
unfoldable pub build : ℕ → ℕ → List ℕ → List ℕ → List ℕ → List ℕ
build events firm classes numbers buffer =
    done (build_number events firm classes numbers (length buffer))
    (table_image (table_from events firm classes numbers) ++ drop (table_length events (relations_told numbers)) buffer) buffer

-- the image that was built
abbrev pub built_image : ℕ → ℕ → List ℕ → List ℕ → List ℕ → List ℕ
built_image events firm classes numbers buffer = take (table_length events (relations_told numbers)) (build events firm classes numbers buffer)

-- Back. A relation in its five numbers
abbrev pub numbers_from : Relation → List ℕ
numbers_from k = k.kind ∷ k.left ∷ k.right ∷ bit k.bounded ∷ k.time ∷ []

-- 8 for a relation that does not exist, then 14 for fewer places than numbers
unfoldable pub relation_told_number : List ℕ → ℕ → ℕ → ℕ
relation_told_number table relation room =
    (read_table table).number else 8 if not (ltb relation (table_of table).count) else 14 if ltb room 5

-- what the lent places hold afterwards: the numbers first, and later places stay
unfoldable pub relation_told : List ℕ → ℕ → List ℕ → List ℕ
relation_told table relation places =
    done (relation_told_number table relation (length places)) (numbers_from (relation_of (table_of table) relation) ++ drop 5 places) places

-- the class byte of an event: 8 for one that does not exist
unfoldable pub class_told_number : List ℕ → ℕ → ℕ
class_told_number table event = (read_table table).number else event_number (table_of table) event

-- numbers that tell a table whole: firm, a class byte for each event, and five numbers for each relation
pub record Tells (firm : ℕ) (classes numbers : List ℕ) (t : Table) : Type 0 where
  pub firm_told : firm ≡ bit t.firm
  pub class_each : length classes ≡ t.events
  pub class_told : (e : ℕ) → e < t.events → get_or classes e 0 ≡ class_byte t e
  pub five_each : length numbers ≡ 5 * t.count
  pub five_told : (k : ℕ) → k < t.count → take 5 (drop (5 * k) numbers) ≡ numbers_from (relation_of t k)

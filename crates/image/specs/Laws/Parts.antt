-- The parts of the readers' definitions: what the 6 bytes of a relation say, and what a marking that is judged 'done' says of its records. The parts of a table's image, put one behind the other. Assumes nothing.
use Rattle.std.specs.Prelude.{◌≡◌, refl, not, List, [], ◌++◌, ℕ, ◌+◌, ◌-◌, ◌*◌, ◌%◌, ◌^◌, ◌<◌, ◌≤◌, length, take, drop}
use Rattle.std.proofs.Common.{sym, ap, ap₂, ◌∙◌, one-mul, arith, length-append}
use borrow.Author.Tests.{eq-eqb, ne_eqb}
use Rattle.rules.specs.declared.Relation.{Relation}
use Rattle.rules.specs.declared.Table.{Table}
use Rattle.rules.specs.declared.Marking.{Marking}
use Rattle.rules.specs.Numbers.{◌if◌}
use Rattle.rules.specs.Holds.{most_events, most_relations, record_of}
use Rattle.rules.specs.Fields.{field, bytes_of, ◌▸◌, ◌∶◌}
use Rattle.rules.specs.Judge.{events_fit, table_number, relation_number, record_number, marking_number}
use Rattle.rules.specs.Pieces.{pieces}
use Rattle.rules.specs.Image.{relation_bit, relation_spare, relation_at, relation_image_number, header_image, class_byte, class_image, relation_image, place_image, table_image}
use Rattle.rules.specs.Image.{table_length, FieldsHold}
use Rattle.rules.proofs.Laws.Tests.{not_false}
use Rattle.rules.proofs.Laws.Numbers.{if_done, both_done, first_each}
use Rattle.rules.proofs.Laws.Fields.{last_part, bytes_joined, bit_lt}
use Rattle.rules.proofs.Laws.Judge.{good_table}
use Rattle.rules.proofs.Laws.Fit.{fit_few}
use Rattle.rules.proofs.Laws.Pieces.{put_behind, pieces_length}
use Rattle.rules.proofs.Laws.Written.{header_length, classes_sized}
use Rattle.image.specs.Packed.{relation_of_word, word_of_relation, ends_word, header_word}
use Rattle.image.specs.Laws.Packed.{relation_parts}
use Rattle.image.specs.Laws.Slices.{word_from_to}

-- relation k of an image, by the word that is read from its 6 bytes
module _ (image : List ℕ) (events k : ℕ) (room : table_length events (k + 1) ≤ length image) where
  abbrev at : ℕ
  at = 4 + events + 6 * k

  abbrev read : ℕ
  read = field (take (at + 6 - at) (drop at image)) 0 (8 * length (take (at + 6 - at) (drop at image)))

  module _ {w : ℕ} (w-is : w ≡ read) where
    word : w ≡ field image (relation_bit events k) 48
    word = w-is ∙ word_from_to image at 6 (omega arith)

    pub relation_read : relation_of_word w ≡ relation_at image (relation_bit events k)
    relation_read = ap relation_of_word word ∙ relation_parts image (relation_bit events k)

    spare : w % 4 ≡ relation_spare image (relation_bit events k)
    spare = ap (λ (v : ℕ). v % 4) word ∙ sym (last_part image (relation_bit events k) 46 2)

    pub relation_refused : (w % 4 ≡ 0 → ⊥) → 2 ≡ relation_image_number image events (relation_bit events k)
    unfolding relation_image_number
    relation_refused h = rw (ne_eqb _ 0 (λ z. h (spare ∙ z))) refl

    pub relation_judged : w % 4 ≡ 0 → {relation : Relation} → relation ≡ relation_of_word w → {number : ℕ} → number ≡ relation_number events relation
        → number ≡ relation_image_number image events (relation_bit events k)
    unfolding relation_image_number
    relation_judged clear relation-is number-is =
        number-is ∙ ap (relation_number events) (relation-is ∙ relation_read) ∙ rw (eq-eqb _ 0 (sym spare ∙ clear)) refl

-- a table that is judged 'done' has few events and relations
pub table_few : (t : Table) → table_number t ≡ 0 → table_length t.events t.count ≤ table_length most_events most_relations
table_few t h = let good = good_table t h in omega (arith, good.few_events, good.few_relations)

-- a marking that is judged 'done'
pub events_few : (m : Marking) → marking_number m ≡ 0 → m.events ≤ most_events
unfolding marking_number
events_few m h = fit_few m.events (not_false _ (if_done 2 _ (both_done (3 if not (events_fit m.events)) _ h).0))

pub record_done : (m : Marking) → marking_number m ≡ 0 → (e : ℕ) → e < m.events → record_number (record_of m e) ≡ 0
unfolding marking_number
record_done m h e l =
    first_each (λ x. record_number (record_of m x)) m.events e (both_done (3 if not (events_fit m.events)) _ h).1 l

-- a relation's first 2 bytes and then the others
pub relation_bytes : (k : Relation) → FieldsHold k → {ends : ℕ} → ends ≡ ends_word k.kind k.left k.right k.bounded
    → bytes_of 2 ends ++ bytes_of 4 (k.time * 4) ≡ relation_image k
unfolding relation_image
relation_bytes k held e =
    let upper = ends_word k.kind k.left k.right k.bounded in
    let small : upper < 2 ^ 16 = omega (arith, held.kind_fits, held.left_fits, held.right_fits, bit_lt k.bounded) in
    let late : k.time * 4 < 2 ^ 32 = omega (arith, held.time_fits_lem) in
    let word : upper ▸ 32 ∶ k.time * 4 ≡ word_of_relation k = omega arith in
    ap (λ (v : ℕ). bytes_of 2 v ++ bytes_of 4 (k.time * 4)) e ∙ bytes_joined 2 4 upper (k.time * 4) small late ∙ ap (bytes_of 6) word

-- header, classes and relations, one put behind the other, are the table's image, and the rest is as it was
pub table_put : (t : Table) (buffer : List ℕ) {word : ℕ} {first second whole : List ℕ} → word ≡ header_word t.events t.count t.firm
    → first ≡ take 0 buffer ++ bytes_of 4 word ++ drop 4 buffer
    → second ≡ take 4 first ++ pieces (λ e. bytes_of 1 (class_byte t e)) 0 t.events ++ drop (4 + t.events) first
    → whole ≡ take (4 + t.events) second ++ pieces (place_image t) 0 t.count ++ drop (table_length t.events t.count) second
    → whole ≡ table_image t ++ drop (table_length t.events t.count) buffer
unfolding header_image class_image
table_put t buffer w a b c =
    let header = header_image t in
    let begun = a ∙ ap (λ (v : ℕ). take 0 buffer ++ bytes_of 4 v ++ drop 4 buffer) w in
    let classes = pieces (class_image t) 0 t.events in
    let long = length-append header classes ∙ ap₂ ◌+◌ (header_length t) (pieces_length (classes_sized t) 0 t.events ∙ one-mul t.events) in
    put_behind buffer (header ++ classes) (pieces (place_image t) 0 t.count) (4 + t.events) (6 * t.count) long
    (put_behind buffer header classes 4 t.events (header_length t) (put_behind buffer [] header 0 4 refl refl begun) b) c

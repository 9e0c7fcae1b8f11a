-- The fields of a relation, and those of a record before its count, are parts of the one number that their bytes hold: the law of fields, cited at
-- each width. What an image has of them are the bytes of that number, and behind a record's those of its count. Assumes nothing.
use Rattle.std.specs.Prelude.{◌≡◌, refl, Bool, true, false, cond, List, ◌++◌, ℕ, ◌+◌, ◌-◌, ◌*◌, ◌/◌, ◌^◌, ◌<◌, eqb, leb, length, take, drop}
use Rattle.std.proofs.Math.Path.{sym, ap, ap₂}
use Rattle.std.proofs.Common.{◌∙◌, lt_of_le_of_lt, arith, leb-true}
use Rattle.std.proofs.Math.Pow.{high}
use mir.Val.{bool_byte}
use Rattle.rules.specs.declared.Relation.{Relation}
use Rattle.rules.specs.declared.Record.{Record}
use Rattle.rules.specs.Holds.{limit}
use Rattle.rules.specs.Fields.{field, flag, bit, bytes_of, ◌▸◌, ◌∶◌}
use Rattle.rules.specs.Judge.{state_fits, record_fits, record_number}
use Rattle.rules.specs.Image.{relation_at, relation_image, state_at, record_at, record_bytes, record_image}
use Rattle.rules.specs.Carrying.{carried_at}
use Rattle.rules.proofs.Laws.Tests.{both, not_false}
use Rattle.rules.proofs.Laws.Numbers.{if_done}
use Rattle.rules.proofs.Laws.Fit.{fits_parts, count_small}
use Rattle.rules.proofs.Laws.Fields.{field_lt, field_join, field_part, first_part, last_part, field_ends, bytes_joined, flag_bit, bit_flag, bit_lt}
use Rattle.image.specs.Laws.Slices.{field_of_part, word_part, word_behind, from_to}
use Rattle.image.specs.Packed.{relation_of_word, word_of_relation, record_of_word, word_of_record, whole_of_record}

-- a flag as the machine has it
pub flag_byte : (b : Bool) → bool_byte b ≡ bit b
flag_byte true = refl
flag_byte false = refl

pub flag_small : (b : Bool) → bool_byte b < 2
flag_small b = rw (flag_byte b) (bit_lt b)

-- a relation's and a record's bytes are those of its word
pub relation_word : (k : Relation) → relation_image k ≡ bytes_of 6 (word_of_relation k)
unfolding relation_image
relation_word k = refl

pub image_word : (r : Record) → record_image r ≡ bytes_of record_bytes (whole_of_record r)
unfolding record_image
image_word r = refl

module _ (image : List ℕ) (p : ℕ) where
  pub relation_parts : relation_of_word (field image p 48) ≡ relation_at image p
  unfolding relation_at
  relation_parts =
      rw (
        field_part image p 3 6 39,
        field_part image p 9 6 33,
        field_part image p 15 1 32,
        field_part image p 16 30 2,
        first_part image p 3 45,
      )

  pub state_parts : (count : ℕ) → record_of_word (field image p 64) count ≡ state_at image p count
  state_parts count =
      rw (
        field_part image p 1 30 33,
        field_part image p 31 1 32,
        field_part image p 32 1 31,
        field_part image p 33 1 30,
        last_part image p 34 30,
        first_part image p 1 63,
      )

  pub record_parts : record_of_word (field image p 64) (field image (p + 64) 32) ≡ record_at image p
  unfolding record_at
  record_parts = state_parts (field image (p + 64) 32)

  -- the first bit tells whether the event has happened, and so how often a record that is carried over counts
  pub carried_parts : record_of_word (field image p 64) (field image p 64 / 2 ^ 63) ≡ carried_at image p
  unfolding carried_at
  carried_parts =
      let first : field image p 64 / 2 ^ 63 ≡ bit (flag image p) =
      ap (λ (w : ℕ). w / 2 ^ 63) (field_join image p 1 63)
      ∙ high (field image p 1) 63 (field_lt image (p + 1) 63)
      ∙ sym (flag_bit (field image p 1) (field_lt image p 1)) in
      state_parts (field image p 64 / 2 ^ 63) ∙ ap (state_at image p) first

  -- the number of the record that is read is the number that its bytes hold, before its count and with it
  pub state_read : (count : ℕ) → word_of_record (state_at image p count) ≡ field image p 64
  state_read count =
      let digit : (q : ℕ) → bit (eqb (field image q 1) 1) ≡ field image q 1 = λ q. flag_bit (field image q 1) (field_lt image q 1) in
      rw (
        digit p,
        digit (p + 31),
        digit (p + 32),
        digit (p + 33),
        field_join image p 34 30,
        field_join image p 33 1,
        field_join image p 32 1,
        field_join image p 31 1,
        field_join image p 1 30,
      )

  pub whole_read : whole_of_record (record_at image p) ≡ field image p 96
  unfolding record_at
  whole_read = ap (λ (w : ℕ). w ▸ 32 ∶ field image (p + 64) 32) (state_read (field image (p + 64) 32)) ∙ sym (field_join image p 64 32)

-- a record's numbers fit their bits
pub record Room (r : Record) : Type 0 where
  pub age_fits : r.age < 2 ^ 30
  pub deadline_fits : r.deadline < 2 ^ 30
  pub count_fits : r.count < 2 ^ 32

-- those of a record that is judged 'done' do, so its fields before the count fit 64 bits, and the whole 96
pub room : (r : Record) → record_number r ≡ 0 → Room r
unfolding state_fits
room r h =
    let fits = fits_parts r (not_false (record_fits r) (if_done 6 _ h)) in
    let most : (b : Bool) → cond b limit 0 < 2 ^ 30 = elim [ true ↦ omega arith | false ↦ omega arith ] in
    let p = both (leb r.age (cond r.happened limit 0)) _ fits.0 in
    let q = both (cond r.pending true _) (leb r.deadline (cond r.bounded limit 0)) p.1 in
    record {
      age_fits = lt_of_le_of_lt (leb-true _ _ p.0) (most r.happened);
      deadline_fits = lt_of_le_of_lt (leb-true _ _ q.1) (most r.bounded);
      count_fits = omega (arith, count_small r fits.1);
    }

pub word_fits : (r : Record) → Room r → word_of_record r < 2 ^ 64
word_fits r small =
    omega (
      arith,
      small.age_fits,
      small.deadline_fits,
      bit_lt r.happened,
      bit_lt r.included,
      bit_lt r.pending,
      bit_lt r.bounded,
    )

pub whole_fits : (r : Record) → Room r → whole_of_record r < 2 ^ 96
whole_fits r small = omega (arith, word_fits r small, small.count_fits)

-- a record's bytes are those before its count and then those of its count
pub record_bytes_lem : (r : Record) → Room r → bytes_of 8 (word_of_record r) ++ bytes_of 4 r.count ≡ record_image r
record_bytes_lem r small = bytes_joined 8 4 (word_of_record r) r.count (word_fits r small) small.count_fits ∙ sym (image_word r)

-- bytes that hold the number of a record with room are read as that record
pub record_back : (image : List ℕ) (p : ℕ) (r : Record) → Room r → field image p 96 ≡ whole_of_record r → record_at image p ≡ r
unfolding record_at
record_back image p r small e =
    let whole = field_ends image p 64 32 _ r.count small.count_fits e in
    let a = field_ends image p 34 30 _ r.deadline small.deadline_fits whole.0 in
    let b = field_ends image p 33 1 _ (bit r.bounded) (bit_lt r.bounded) a.0 in
    let c = field_ends image p 32 1 _ (bit r.pending) (bit_lt r.pending) b.0 in
    let d = field_ends image p 31 1 _ (bit r.included) (bit_lt r.included) c.0 in
    let f = field_ends image p 1 30 (bit r.happened) r.age small.age_fits d.0 in
    rw (
      whole.1,
      a.1,
      b.1,
      c.1,
      d.1,
      f.1,
      f.0,
      bit_flag r.happened,
      bit_flag r.included,
      bit_flag r.pending,
      bit_flag r.bounded,
    )

-- the number as the machine has it: it fits, and is no smaller on the way
abbrev machine_word : Record → ℕ
machine_word r =
    ((((bool_byte r.happened * 1073741824 + r.age) * 2 + bool_byte r.included) * 2 + bool_byte r.pending) * 2 + bool_byte r.bounded) * 1073741824
    + r.deadline

pub machine_fits : (r : Record) → record_number r ≡ 0 → machine_word r < 2 ^ 64
machine_fits r h = rw (flag_byte r.happened, flag_byte r.included, flag_byte r.pending, flag_byte r.bounded) (word_fits r (room r h))

-- a record by its two words, read from its bytes; and where those are a part of an image
module _ (bytes : List ℕ) (long : length bytes ≡ record_bytes) {behind : List ℕ} (behind-is : behind ≡ drop 8 bytes)
    {count : ℕ} (counted : count ≡ field behind 0 (8 * length behind))
  where
    count_read : count ≡ field bytes 64 32
    count_read = counted ∙ rw behind-is (word_behind bytes 8 4 long)

    pub count_fits_word : count < 2 ^ 32
    count_fits_word = rw count_read (field_lt bytes 64 32)

    pub record_by_words : {before : List ℕ} → before ≡ take 8 bytes → {state : ℕ} → state ≡ field before 0 (8 * length before)
        → record_of_word state count ≡ record_at bytes 0
    record_by_words before-is s = ap₂ record_of_word (s ∙ rw before-is (word_part bytes 0 8 (omega (arith, long)))) count_read ∙ record_parts bytes 0

pub record_of_part : (image : List ℕ) (at : ℕ) → record_at (take (at + record_bytes - at) (drop at image)) 0 ≡ record_at image (8 * at)
record_of_part image at =
    let part = take record_bytes (drop at image) in
    ap (λ (bytes : List ℕ). record_at bytes 0) (from_to image at record_bytes)
    ∙ sym (record_parts part 0)
    ∙ ap₂ record_of_word (field_of_part image at record_bytes 0 64 (omega arith) ∙ ap (λ (p : ℕ). field image p 64) (omega arith))
    (field_of_part image at record_bytes 64 32 (omega arith))
    ∙ record_parts image (8 * at)

-- A header, an event's class and a relation, each as the one number that its bytes hold: the number has room in them, bytes that hold it are read
-- as its fields with the spare bits 0, and the fields that are read make it again. Assumes nothing.
use Rattle.std.specs.Prelude.{◌≡◌, refl, Bool, List, ℕ, ◌+◌, ◌^◌, ◌<◌, eqb}
use Rattle.std.proofs.Common.{ap, ◌∙◌, arith, lit<}
use Rattle.rules.specs.declared.Relation.{Relation}
use Rattle.rules.specs.declared.Table.{Table}
use Rattle.rules.specs.Fields.{field, flag, ◌▸◌, ◌∶◌, bit, bytes_of}
use Rattle.rules.specs.Image.{events_in, relations_in, firm_in, header_spare, relation_at, relation_spare, header_image, class_byte, class_image, FieldsHold}
use Rattle.rules.proofs.Laws.Fields.{field_lt, field_join, field_ends, flag_bit, bit_flag, bit_lt}
use Rattle.image.specs.Packed.{word_of_relation, header_word}

-- the bytes of a header and of a class are those of one number; of a relation: `Packed`
pub header_word_lem : (t : Table) → header_image t ≡ bytes_of 4 (header_word t.events t.count t.firm)
unfolding header_image
header_word_lem t = refl

pub class_word_lem : (t : Table) (e : ℕ) → class_image t e ≡ bytes_of 1 (class_byte t e)
unfolding class_image
class_word_lem t e = refl

-- which has room in them
pub header_fits : (events count : ℕ) (firm : Bool) → events < 2 ^ 7 → count < 2 ^ 9 → header_word events count firm < 2 ^ 32
header_fits events count firm a b = omega (arith, a, b, bit_lt firm)

pub class_fits : (a b : Bool) → (bit a ▸ 1 ∶ bit b ▸ 6 ∶ 0) < 2 ^ 8
class_fits a b = omega (arith, bit_lt a, bit_lt b)

pub relation_fits : (k : Relation) → FieldsHold k → word_of_relation k < 2 ^ 48
relation_fits k h = omega (arith, h.kind_fits, h.left_fits, h.right_fits, h.time_fits_lem, bit_lt k.bounded)

module _ (image : List ℕ) where
  -- Bytes that hold the number are read as its fields, and the spare bits are 0
  pub header_back : (events count : ℕ) (firm : Bool) → count < 2 ^ 9 → field image 0 32 ≡ header_word events count firm
      → (events_in image ≡ events) × (relations_in image ≡ count) × (firm_in image ≡ firm) × (header_spare image ≡ 0)
  header_back events count firm b e =
      let s = field_ends image 0 17 15 _ 0 (lit< tt) e in
      let f = field_ends image 0 16 1 _ (bit firm) (bit_lt firm) s.0 in
      let c = field_ends image 0 7 9 events count b f.0 in
      (c.0, c.1, ap (λ (x : ℕ). eqb x 1) f.1 ∙ bit_flag firm, s.1)

  pub class_back : (p : ℕ) (a b : Bool) → field image p 8 ≡ bit a ▸ 1 ∶ bit b ▸ 6 ∶ 0
      → (flag image p ≡ a) × (flag image (p + 1) ≡ b) × (field image (p + 2) 6 ≡ 0)
  class_back p a b e =
      let s = field_ends image p 2 6 _ 0 (lit< tt) e in
      let c = field_ends image p 1 1 (bit a) (bit b) (bit_lt b) s.0 in
      (ap (λ (x : ℕ). eqb x 1) c.0 ∙ bit_flag a, ap (λ (x : ℕ). eqb x 1) c.1 ∙ bit_flag b, s.1)

  pub relation_back : (p : ℕ) (k : Relation) → FieldsHold k → field image p 48 ≡ word_of_relation k
      → (relation_at image p ≡ k) × (relation_spare image p ≡ 0)
  unfolding relation_at
  relation_back p k small e =
      let s = field_ends image p 46 2 _ 0 (lit< tt) e in
      let t = field_ends image p 16 30 _ k.time small.time_fits_lem s.0 in
      let b = field_ends image p 15 1 _ (bit k.bounded) (bit_lt k.bounded) t.0 in
      let r = field_ends image p 9 6 _ k.right small.right_fits b.0 in
      let l = field_ends image p 3 6 k.kind k.left small.left_fits r.0 in
      (rw (t.1, b.1, r.1, l.1, l.0, bit_flag k.bounded), s.1)

  digit : (q : ℕ) → bit (flag image q) ≡ field image q 1
  digit q = flag_bit (field image q 1) (field_lt image q 1)

  -- The fields that are read, where the spare bits are 0, make the number that the bytes hold
  pub header_again : header_spare image ≡ 0 → header_word (events_in image) (relations_in image) (firm_in image) ≡ field image 0 32
  header_again s = rw (digit 16, field_join image 0 17 15, field_join image 0 16 1, field_join image 0 7 9, s)

  pub class_again : (p : ℕ) → field image (p + 2) 6 ≡ 0 → bit (flag image p) ▸ 1 ∶ bit (flag image (p + 1)) ▸ 6 ∶ 0 ≡ field image p 8
  class_again p s = rw (digit p, digit (p + 1), field_join image p 2 6, field_join image p 1 1, s)

  pub relation_again : (p : ℕ) → relation_spare image p ≡ 0 → word_of_relation (relation_at image p) ≡ field image p 48
  unfolding relation_at
  relation_again p s =
      rw (
        digit (p + 15),
        field_join image p 46 2,
        field_join image p 16 30,
        field_join image p 15 1,
        field_join image p 9 6,
        field_join image p 3 6,
        s,
      )

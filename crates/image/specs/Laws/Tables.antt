-- Reading a table: the header's fields as parts of one number, the class bytes as a part of the image, and the numbers in their order, by the
-- functions that give them. Assumes nothing.
use Rattle.std.specs.Prelude.{◌≡◌, refl, ℕ, ◌&&◌, not, List, eqb, length, take, drop}
use Rattle.std.proofs.Common.{sym, ap, ◌∙◌, arith, length-take-le, length-drop}
use Prim.Native.Nat.{◌+◌, ◌-◌, ◌*◌, ◌/◌, ◌%◌, ◌^◌, ◌≤◌}
use borrow.Author.Tests.{le-ltb, eq-eqb, ne_eqb}
use Rattle.rules.specs.Numbers.{◌if◌, ◌else◌, first_of}
use Rattle.rules.specs.EventSet.{set_of}
use Rattle.rules.specs.Fields.{field}
use Rattle.rules.specs.Judge.{events_fit, relations_fit}
use Rattle.rules.specs.Image.{events_in, relations_in, firm_in, header_spare, table_length, table_image_number, table_in}
use Rattle.rules.proofs.Laws.Fields.{field_part, first_part, last_part}
use Rattle.rules.proofs.Laws.Numbers.{else_joined, else_refused, else_done, first_same}
use Rattle.rules.proofs.Laws.EventSet.{set_same_test}
use Rattle.image.specs.declared.header.Header.{Header}
use Rattle.image.specs.declared.classes.Classes.{Classes}
use Rattle.image.specs.Header.{header_number, SaysHeader}
use Rattle.image.specs.Classes.{classes_number, classes_of}
use Rattle.image.specs.Parts.{class_number, is_controllable_in, is_causable_in, relations_number, table_beside}
use Rattle.image.specs.Laws.Slices.{field_of_part, word_part, from_to}
use Rattle.image.specs.Classes as bytes

module _ (image : List ℕ) where
  -- the header's word, as it is read, says the fields: events 7, relations 9, firm 1, spare 15
  module _ (long : 4 ≤ length image) {w : ℕ} (read : w ≡ field (take 4 image) 0 (8 * length (take 4 image))) where
    word : w ≡ field image 0 32
    word = read ∙ word_part image 0 4 long

    events_said : w / 2 ^ 25 % 2 ^ 7 ≡ events_in image
    events_said = ap (λ (v : ℕ). v / 2 ^ 25 % 2 ^ 7) word ∙ sym (first_part image 0 7 25)

    count_said : w / 2 ^ 16 % 2 ^ 9 ≡ relations_in image
    count_said = ap (λ (v : ℕ). v / 2 ^ 16 % 2 ^ 9) word ∙ sym (field_part image 0 7 9 16)

    firm_said : eqb (w / 2 ^ 15 % 2) 1 ≡ firm_in image
    firm_said = ap (λ (v : ℕ). eqb (v / 2 ^ 15 % 2) 1) word ∙ rw (field_part image 0 16 1 15)

    spare_said : w % 2 ^ 15 ≡ header_spare image
    spare_said = ap (λ (v : ℕ). v % 2 ^ 15) word ∙ sym (last_part image 0 17 15)

    abbrev counted : ℕ
    counted = 3 if not (events_fit (w / 2 ^ 25 % 2 ^ 7) && relations_fit (w / 2 ^ 16 % 2 ^ 9))

    abbrev exact : Type 0
    exact = length image ≡ table_length (w / 2 ^ 25 % 2 ^ 7) (w / 2 ^ 16 % 2 ^ 9)

    -- the header's numbers, one law for each way that reading it ends, in order
    pub spare_refused : (w % 2 ^ 15 ≡ 0 → ⊥) → 2 ≡ header_number image
    spare_refused h = rw (le-ltb (length image) 4 long, ne_eqb (header_spare image) 0 (λ z. h (spare_said ∙ z))) refl

    module _ (clear : w % 2 ^ 15 ≡ 0) where
      in_order : header_number image ≡ (counted else 1 if not (eqb (length image) (table_length (w / 2 ^ 25 % 2 ^ 7) (w / 2 ^ 16 % 2 ^ 9))))
      in_order = rw (le-ltb (length image) 4 long, eq-eqb (header_spare image) 0 (sym spare_said ∙ clear), events_said, count_said) refl

      pub counts_refused : {number : ℕ} → number ≡ counted → (number ≡ 0 → ⊥) → number ≡ header_number image
      counts_refused e h = e ∙ sym (in_order ∙ else_refused _ (λ z. h (e ∙ z)))

      module _ (few : 0 ≡ counted) where
        pub length_refused : (exact → ⊥) → 1 ≡ header_number image
        length_refused h = sym (in_order ∙ else_done _ (sym few) ∙ rw (ne_eqb (length image) _ h) refl)

        pub header_done : exact → 0 ≡ header_number image
        header_done h = sym (in_order ∙ else_done _ (sym few) ∙ rw (eq-eqb (length image) _ h) refl)

        pub header_said : exact → SaysHeader image (w / 2 ^ 25 % 2 ^ 7) (w / 2 ^ 16 % 2 ^ 9) (eqb (w / 2 ^ 15 % 2) 1)
        header_said h = record { events_said = events_said; count_said = count_said; firm_said = firm_said; exact = h }

  -- the numbers in their order
  in_order_of : table_image_number image
      ≡ (header_number image else first_of (events_in image) (class_number image) else relations_number image (events_in image) (relations_in image))
  unfolding table_image_number
  in_order_of = simp else_joined refl

  pub header_refused : {number : ℕ} → number ≡ header_number image → (number ≡ 0 → ⊥) → number ≡ table_image_number image
  header_refused e h = e ∙ sym (in_order_of ∙ else_refused _ (λ z. h (e ∙ z)))

  -- with the header read, the class bytes are those behind it
  module _ (header : Header) (said : SaysHeader image header.events header.count header.firm) (done : 0 ≡ header_number image) where
    abbrev n : ℕ
    n = header.events

    abbrev part : List ℕ
    part = take (4 + n - 4) (drop 4 image)

    room : 4 + n ≤ length image
    room = omega (arith, said.exact)

    class_field : (p w : ℕ) {q : ℕ} → p + w ≤ 8 * n → 8 * 4 + p ≡ q → field (take n (drop 4 image)) p w ≡ field image q w
    class_field p w fits place = field_of_part image 4 n p w fits ∙ ap (λ (x : ℕ). field image x w) place

    many : length (take n (drop 4 image)) ≡ n
    many = length-take-le n (drop 4 image) (rw length-drop (omega (arith, room)))

    numbers : classes_number part ≡ first_of (events_in image) (class_number image)
    numbers =
        rw (from_to image 4 n, many)
        (first_same (bytes.class_number (take n (drop 4 image))) (class_number image) n
        (λ e b. ap (λ (x : ℕ). 2 if not (eqb x 0)) (class_field (8 * e + 2) 6 (omega arith) (omega arith))))
        ∙ ap (λ (k : ℕ). first_of k (class_number image)) said.events_said

    controls : set_of n (bytes.is_controllable_in (take n (drop 4 image))) ≡ set_of n (is_controllable_in image)
    controls =
        set_same_test (bytes.is_controllable_in (take n (drop 4 image))) (is_controllable_in image) n
        (λ e b. ap (λ (x : ℕ). eqb x 1) (class_field (8 * e) 1 (omega arith) (omega arith)))

    causes : set_of n (bytes.is_causable_in (take n (drop 4 image))) ≡ set_of n (is_causable_in image)
    causes =
        set_same_test (bytes.is_causable_in (take n (drop 4 image))) (is_causable_in image) n
        (λ e b. ap (λ (x : ℕ). eqb x 1) (class_field (8 * e + 1) 1 (omega arith) (omega arith)))

    pub classes_refused : {number : ℕ} → number ≡ classes_number part → (number ≡ 0 → ⊥) → number ≡ table_image_number image
    classes_refused e h =
        let number = e ∙ numbers in
        number ∙ sym (in_order_of ∙ else_done _ (sym done) ∙ else_refused _ (λ z. h (number ∙ z)))

    pub relations_told : 0 ≡ classes_number part → {number : ℕ} → number ≡ relations_number image header.events header.count
        → number ≡ table_image_number image
    relations_told clear e =
        e ∙ rw (said.events_said, said.count_said) refl ∙ sym (in_order_of ∙ else_done _ (sym done) ∙ else_done _ (sym (clear ∙ numbers)))

    -- what is read
    pub table_whole : {classes : Classes} → classes ≡ classes_of part → table_beside image header classes ≡ table_in image
    unfolding table_in
    table_whole {classes} sets =
        let whole : classes ≡ record { controllable = set_of n (is_controllable_in image); causable = set_of n (is_causable_in image) } =
        sets ∙ rw (from_to image 4 n, many, controls, causes) refl in
        rw (whole, said.events_said, said.count_said, said.firm_said) refl

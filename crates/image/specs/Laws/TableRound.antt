-- The images of tables go round both ways: a table that an image can hold is judged as its image is read, its image is read as the table, and what
-- is read is written as the same bytes. Assumes nothing.
use Rattle.std.specs.Prelude.{◌≡◌, Bool, true, ◌&&◌, ℕ, ◌+◌, ◌*◌, ◌<◌, ◌≤◌, eqb, get_or, take, drop}
use Rattle.std.proofs.Common.{sym, ap, ◌∙◌, mod-eq_of_lt, le_of_eq, zero-add, arith, length-append, take_all, take-add}
use Rattle.std.proofs.Math.Path.{ap₂}
use Rattle.std.proofs.Math.Bool.{not}
use mathlib.Core.List.{List, [], ◌++◌, append_assoc, append-nil}
use borrow.Author.Tests.{le-ltb, eq-eqb, eqb-true, not-false}
use Rattle.std.proofs.Math.Dec.{ltb}
use Rattle.std.proofs.Math.ListN.{length, get_or-append}
use Rattle.rules.specs.declared.Relation.{Relation}
use Rattle.rules.specs.declared.Table.{Table}
use Rattle.rules.specs.Numbers.{◌if◌, first_of}
use Rattle.rules.specs.Holds.{empty_relation, relation_of, is_controllable, is_causable}
use Rattle.rules.specs.Fields.{field, ◌▸◌, ◌∶◌, bit, bytes_of}
use Rattle.rules.specs.Pieces.{pieces}
use Rattle.rules.specs.Judge.{events_fit, relations_fit, relation_number, table_number}
use Rattle.rules.specs.Image.{events_in, relations_in, firm_in, header_spare, class_bit, class_spare, relation_bit, relation_at, relation_spare, table_length}
use Rattle.rules.specs.Image.{relation_image_number, table_image_number, table_in, read_table, header_image, class_byte, class_image, place_image}
use Rattle.rules.specs.Image.{table_image, ImageHolds, unused_empty}
use Rattle.rules.proofs.Laws.Counting.{places_same}
use Rattle.rules.proofs.Laws.EventSet.{set_has, set_same_test}
use Rattle.rules.proofs.Laws.Numbers.{if_done, both_done, first_each, first_done, first_same}
use Rattle.rules.proofs.Laws.Fields.{bytes_of_word, word_of_bytes}
use Rattle.rules.proofs.Laws.Pieces.{pieces_length, piece_word, pieces_whole}
use Rattle.rules.proofs.Laws.TableWith.{relation_with, with_done, with_unused}
use Rattle.rules.proofs.Laws.Written.{classes_sized, places_sized, header_length, table_image_length, table_held}
use Rattle.image.specs.Packed.{word_of_relation, header_word}
use Rattle.image.specs.Parts.{class_number, is_controllable_in, is_causable_in}
use Rattle.image.specs.Laws.Packed.{relation_word}
use Rattle.image.specs.Laws.TableWords.{header_word_lem, class_word_lem, header_fits, class_fits, relation_fits, header_back, class_back}
use Rattle.image.specs.Laws.TableWords.{relation_back, header_again, class_again, relation_again}

-- The image of a table that an image can hold
module _ (t : Table) (held : ImageHolds t) where
  header_bytes : field (table_image t) 0 32 ≡ header_word t.events t.count t.firm
  header_bytes =
      word_of_bytes (table_image t) 0 4 (header_word t.events t.count t.firm) byte
      ∙ mod-eq_of_lt (header_fits t.events t.count t.firm held.events_fit_lem held.count_fits)
    where
      byte : (i : ℕ) → i < 4 → get_or (table_image t) (0 + i) 0 ≡ get_or (bytes_of 4 (header_word t.events t.count t.firm)) i 0
      byte i l =
          let classes = pieces (class_image t) 0 t.events in
          let relations = pieces (place_image t) 0 t.count in
          ap₂ (λ (s : List ℕ) (k : ℕ). get_or s k 0) (append_assoc (header_image t) classes relations) (zero-add i)
          ∙ get_or-append (header_image t) (classes ++ relations) 0 i (rw (header_length t) l)
          ∙ ap (λ (s : List ℕ). get_or s i 0) (header_word_lem t)

  header_read : (events_in (table_image t) ≡ t.events)
      × (relations_in (table_image t) ≡ t.count)
      × (firm_in (table_image t) ≡ t.firm)
      × (header_spare (table_image t) ≡ 0)
  header_read = header_back (table_image t) t.events t.count t.firm held.count_fits header_bytes

  class_read : (e : ℕ) → e < t.events
      → (is_controllable_in (table_image t) e ≡ is_controllable t e) × (is_causable_in (table_image t) e ≡ is_causable t e) × (class_spare (table_image t) e ≡ 0)
  class_read e l =
      let place : class_bit e ≡ 8 * (4 + 1 * e) = omega arith in
      class_back (table_image t) (class_bit e) (is_controllable t e) (is_causable t e)
      (ap (λ (p : ℕ). field (table_image t) p 8) place
      ∙ piece_word (classes_sized t) (header_image t) (pieces (place_image t) 0 t.count) 4 t.events e (class_byte t e) (header_length t) l
      (class_word_lem t e) (class_fits (is_controllable t e) (is_causable t e)))

  relation_read : (k : ℕ) → k < t.count
      → (relation_at (table_image t) (relation_bit t.events k) ≡ relation_of t k) × (relation_spare (table_image t) (relation_bit t.events k) ≡ 0)
  relation_read k l =
      let r = relation_of t k in
      let head = header_image t ++ pieces (class_image t) 0 t.events in
      let long : length head ≡ 4 + t.events = length-append (header_image t) (pieces (class_image t) 0 t.events)
      ∙ omega (arith, header_length t, pieces_length (classes_sized t) 0 t.events) in
      relation_back (table_image t) (relation_bit t.events k) r (held.relations_fit_lem k l)
      (ap (λ (s : List ℕ). field s (relation_bit t.events k) 48) (sym (append-nil (table_image t)))
      ∙ piece_word (places_sized t) head [] (4 + t.events) t.count k (word_of_relation r) long l (relation_word r)
      (relation_fits r (held.relations_fit_lem k l)))

  pub image_judged : table_image_number (table_image t) ≡ table_number t
  unfolding table_image_number table_number relation_image_number
  image_judged =
      let image = table_image t in
      let h = header_read in
      let long : 4 ≤ length image = omega (arith, table_image_length t) in
      rw (
        le-ltb (length image) 4 long,
        h.3,
        h.0,
        h.1,
        eq-eqb (length image) (table_length t.events t.count) (table_image_length t),
        first_done (class_number image) t.events (λ e l. rw (class_read e l).2),
        first_same
            (λ k. relation_image_number image t.events (relation_bit t.events k))
            (λ k. relation_number t.events (relation_of t k)) t.count (λ k l. rw ((relation_read k l).1, (relation_read k l).0)),
      )

  table_back : table_in (table_image t) ≡ unused_empty t
  unfolding table_in unused_empty
  table_back =
      let image = table_image t in
      let h = header_read in
      rw (
        h.0,
        h.1,
        h.2,
        places_same empty_relation (λ k. relation_at image (relation_bit t.events k)) (relation_of t) t.count (λ k l. (relation_read k l).0),
        set_same_test (is_controllable_in image) (is_controllable t) t.events (λ e l. (class_read e l).0),
        set_same_test (is_causable_in image) (is_causable t) t.events (λ e l. (class_read e l).1),
      )

-- the image of a table that is judged 'done' is read as the table
pub image_read_lem : (t : Table) → table_number t ≡ 0 → read_table (table_image t) ≡ record { number = 0; table = unused_empty t }
unfolding read_table
image_read_lem t judged =
    let held = table_held t judged in
    rw (image_judged t held, judged, table_back t held)

-- What an image that is read says
pub record TableReadable (image : List ℕ) : Type 0 where
  pub clear : header_spare image ≡ 0
  pub fit : events_fit (events_in image) && relations_fit (relations_in image) ≡ true
  pub exact : length image ≡ table_length (events_in image) (relations_in image)
  pub class_clear : (e : ℕ) → e < events_in image → class_spare image e ≡ 0
  pub relation_clear : (k : ℕ) → k < relations_in image → relation_spare image (relation_bit (events_in image) k) ≡ 0
  pub relation_done : (k : ℕ) → k < relations_in image → relation_number (events_in image) (relation_at image (relation_bit (events_in image) k)) ≡ 0

module _ (image : List ℕ) where
  pub table_readable : table_image_number image ≡ 0 → TableReadable image
  unfolding table_image_number relation_image_number
  table_readable h =
      let n = events_in image in
      let count = relations_in image in
      let p = both_done (1 if ltb (length image) 4) _ h in
      let q = both_done (2 if not (eqb (header_spare image) 0)) _ p.1 in
      let r = both_done (3 if not (events_fit n && relations_fit count)) _ q.1 in
      let s = both_done (1 if not (eqb (length image) (table_length n count))) _ r.1 in
      let t = both_done (first_of n (class_number image)) _ s.1 in
      let each : (k : ℕ) → k < count → (2 if not (eqb (relation_spare image (relation_bit n k)) 0) ≡ 0)
      × (relation_number n (relation_at image (relation_bit n k)) ≡ 0) =
      λ k l. both_done (2 if not (eqb (relation_spare image (relation_bit n k)) 0)) _
      (first_each (λ j. relation_image_number image n (relation_bit n j)) count k t.1 l) in
      record {
        clear = spare (header_spare image) q.0;
        fit = not-false _ (if_done 2 _ r.0);
        exact = eqb-true (length image) (table_length n count) (not-false _ (if_done 0 _ s.0));
        class_clear = λ e l. spare (class_spare image e) (first_each (class_number image) n e t.0 l);
        relation_clear = λ k l. spare (relation_spare image (relation_bit n k)) (each k l).0;
        relation_done = λ k l. (each k l).1;
      }
    where
      spare : (x : ℕ) → 2 if not (eqb x 0) ≡ 0 → x ≡ 0
      spare x e = eqb-true x 0 (not-false _ (if_done 1 _ e))

  -- the table that is read is judged 'done', its unused places are empty, and its image is the image
  module _ (r : TableReadable image) where
    pub table_in_done : table_number (table_in image) ≡ 0
    unfolding table_in
    table_in_done =
        with_done (events_in image) (relations_in image) (firm_in image) (λ k. relation_at image (relation_bit (events_in image) k)) (is_controllable_in image)
        (is_causable_in image) r.fit r.relation_done

    pub table_image_back : ((i : ℕ) → get_or image i 0 < 256) → table_image (table_in image) ≡ image
    unfolding table_in
    table_image_back bytes =
        ap₂ (λ (a b : List ℕ). a ++ b)
        (ap₂ (λ (a b : List ℕ). a ++ b) header (pieces_whole (classes_sized t) image 4 n class))
        (pieces_whole (places_sized t) image (4 + n) count relation)
        ∙ joined
      where
        t : Table
        t = table_in image

        n : ℕ
        n = events_in image

        count : ℕ
        count = relations_in image

        header : header_image t ≡ take 4 image
        header = header_word_lem t ∙ ap (bytes_of 4) (header_again image r.clear) ∙ bytes_of_word image bytes 0 4 (omega (arith, r.exact))

        class : (e : ℕ) → e < n → class_image t e ≡ take 1 (drop (4 + 1 * e) image)
        class e l =
            let place : 4 + e ≡ 4 + 1 * e = omega arith in
            class_word_lem t e
            ∙ ap₂ (λ (a b : Bool). bytes_of 1 (bit a ▸ 1 ∶ bit b ▸ 6 ∶ 0)) (set_has (is_controllable_in image) n e l) (set_has (is_causable_in image) n e l)
            ∙ ap (bytes_of 1) (class_again image (class_bit e) (r.class_clear e l))
            ∙ bytes_of_word image bytes (4 + e) 1 (omega (arith, r.exact))
            ∙ ap (λ (k : ℕ). take 1 (drop k image)) place

        relation : (k : ℕ) → k < count → place_image t k ≡ take 6 (drop (4 + n + 6 * k) image)
        relation k l =
            relation_word (relation_of t k)
            ∙ ap (λ (x : Relation). bytes_of 6 (word_of_relation x))
            (relation_with n count (firm_in image) (λ j. relation_at image (relation_bit n j)) (is_controllable_in image) (is_causable_in image) k l)
            ∙ ap (bytes_of 6) (relation_again image (relation_bit n k) (r.relation_clear k l))
            ∙ bytes_of_word image bytes (4 + n + 6 * k) 6 (omega (arith, r.exact))

        joined : take 4 image ++ take (1 * n) (drop 4 image) ++ take (6 * count) (drop (4 + n) image) ≡ image
        joined =
            let one : 1 * n ≡ n = omega arith in
            ap (λ (l : List ℕ). l ++ take (6 * count) (drop (4 + n) image))
            (ap (λ (k : ℕ). take 4 image ++ take k (drop 4 image)) one ∙ sym (take-add 4 n image))
            ∙ sym (take-add (4 + n) (6 * count) image)
            ∙ take_all (4 + n + 6 * count) image (le_of_eq r.exact)

  pub table_in_unused : unused_empty (table_in image) ≡ table_in image
  unfolding table_in
  table_in_unused =
      with_unused (events_in image) (relations_in image) (firm_in image) (λ k. relation_at image (relation_bit (events_in image) k)) (is_controllable_in image)
      (is_causable_in image)

-- A table that is built from plain numbers: what a build that is done was told, that its table is judged 'done' with its unused places empty, and
-- that firm, its relations and its classes are again the numbers that they were told as. Where the numbers tell a table, building is writing it.
-- Assumes nothing.
use Rattle.std.specs.Prelude.{◌≡◌, refl, Bool, true, ◌&&◌, List, [], ◌∷◌, ◌++◌, ℕ, ◌+◌, ◌*◌, ◌<◌, ◌≤◌, take}
use Rattle.std.proofs.Math.Path.{sym, ap, ap₂}
use Rattle.std.proofs.Common.{◌∙◌, arith, lit<, get_or-take, get_or-drop}
use Rattle.std.proofs.Math.Bool.{not}
use borrow.Author.Tests.{lt-ltb, le-ltb, ltb-false, eq-eqb, eqb-true, not-false}
use Rattle.std.proofs.Math.Dec.{eqb, ltb}
use Rattle.std.proofs.Math.ListN.{length, get_or, drop, length-drop}
use Rattle.rules.specs.declared.Relation.{Relation}
use Rattle.rules.specs.declared.Table.{Table}
use Rattle.rules.specs.Answers.{TableAnswer}
use Rattle.rules.specs.Numbers.{◌if◌, first_of}
use Rattle.rules.specs.Holds.{empty_relation, relation_of, is_controllable, is_causable}
use Rattle.rules.specs.Fields.{field, flag, ◌▸◌, ◌∶◌, bit}
use Rattle.rules.specs.Judge.{events_fit, relations_fit, relation_number, table_number}
use Rattle.rules.specs.Image.{table_length, read_table, class_byte, write_table_number, write_table, unused_empty}
use Rattle.rules.specs.Images.{table_of}
use Rattle.rules.specs.Building.{relations_told, number_in, relation_from, numbers_number, table_from, build_number, build, numbers_from}
use Rattle.rules.specs.Building.{Tells, relation_told_number, relation_told, class_told_number}
use Rattle.rules.proofs.Laws.Tests.{both}
use Rattle.rules.proofs.Laws.Counting.{places_same}
use Rattle.rules.proofs.Laws.TableWith.{relation_with, with_done, with_unused}
use Rattle.rules.proofs.Laws.EventSet.{set_has, set_same_test}
use Rattle.rules.proofs.Laws.Numbers.{if_done, both_done, first_each, first_done}
use Rattle.rules.proofs.Laws.Fields.{flag_bit, bit_flag, bit_lt, byte_field}
use Rattle.image.specs.Laws.TableWords.{class_fits, class_back, class_again}

-- what a build that is done was told
pub record Told (events firm : ℕ) (classes numbers : List ℕ) : Type 0 where
  pub firm_bit : firm < 2
  pub fit : events_fit events && relations_fit (relations_told numbers) ≡ true
  pub class_each : length classes ≡ events
  pub five_each : length numbers ≡ 5 * relations_told numbers
  pub class_clear : (e : ℕ) → e < events → field classes (8 * e + 2) 6 ≡ 0
  pub relation_done : (k : ℕ) → k < relations_told numbers → relation_number events (relation_from numbers k) ≡ 0
  pub bounded_bit : (k : ℕ) → k < relations_told numbers → number_in numbers k 3 < 2

-- the first five numbers of a list
first_five : (l : List ℕ) → 5 ≤ length l → get_or l 0 0 ∷ get_or l 1 0 ∷ get_or l 2 0 ∷ get_or l 3 0 ∷ get_or l 4 0 ∷ [] ≡ take 5 l
first_five [] h = absurd (omega arith)
first_five (a ∷ []) h = absurd (omega arith)
first_five (a ∷ b ∷ []) h = absurd (omega arith)
first_five (a ∷ b ∷ c ∷ []) h = absurd (omega arith)
first_five (a ∷ b ∷ c ∷ d ∷ []) h = absurd (omega arith)
first_five (a ∷ b ∷ c ∷ d ∷ e ∷ rest) h = refl

module _ (events firm : ℕ) (classes numbers : List ℕ) where
  pub told : (room : ℕ) → build_number events firm classes numbers room ≡ 0 → Told events firm classes numbers
  unfolding build_number numbers_number
  told room h =
      let count = relations_told numbers in
      let fits = events_fit events && relations_fit count in
      let exact = eqb (length classes) events && eqb (length numbers) (5 * count) in
      let f = both_done (2 if ltb 1 firm) _ h in
      let p = both_done (3 if not fits) _ f.1 in
      let q = both_done (1 if not exact) _ p.1 in
      let r = both_done (first_of events (λ e. 2 if not (eqb (field classes (8 * e + 2) 6) 0))) _ q.1 in
      let s = both_done (first_of count (numbers_number events numbers)) _ r.1 in
      let each : (k : ℕ) → k < count → (relation_number events (relation_from numbers k) ≡ 0) × (6 if ltb 1 (number_in numbers k 3) ≡ 0) =
      λ k l. both_done (relation_number events (relation_from numbers k)) _ (first_each (numbers_number events numbers) count k s.0 l) in
      let sizes = both (eqb (length classes) events) _ (not-false exact (if_done 0 _ q.0)) in
      record {
        firm_bit = omega (arith, ltb-false 1 firm (if_done 1 _ f.0));
        fit = not-false fits (if_done 2 _ p.0);
        class_each = eqb-true (length classes) events sizes.0;
        five_each = eqb-true (length numbers) (5 * count) sizes.1;
        class_clear = λ e l.
            let spare = first_each (λ x. 2 if not (eqb (field classes (8 * x + 2) 6) 0)) events e r.0 l in
            eqb-true (field classes (8 * e + 2) 6) 0 (not-false _ (if_done 1 _ spare));
        relation_done = λ k l. (each k l).0;
        bounded_bit = λ k l. omega (arith, ltb-false 1 (number_in numbers k 3) (if_done 5 _ (each k l).1));
      }

  pub told_unused : unused_empty (table_from events firm classes numbers) ≡ table_from events firm classes numbers
  unfolding table_from
  told_unused = with_unused events (relations_told numbers) (eqb firm 1) (relation_from numbers) (λ e. flag classes (8 * e)) (λ e. flag classes (8 * e + 1))

  module _ (t : Told events firm classes numbers) where
    pub told_done : table_number (table_from events firm classes numbers) ≡ 0
    unfolding table_from
    told_done =
        with_done events (relations_told numbers) (eqb firm 1) (relation_from numbers) (λ e. flag classes (8 * e)) (λ e. flag classes (8 * e + 1)) t.fit
        t.relation_done

    -- a relation in its five numbers
    pub numbers_again : (k : ℕ) → k < relations_told numbers
        → numbers_from (relation_of (table_from events firm classes numbers) k) ≡ take 5 (drop (5 * k) numbers)
    unfolding table_from relation_from
    numbers_again k l =
        let here = drop (5 * k) numbers in
        let long : 5 ≤ length here = rw length-drop (omega (arith, t.five_each)) in
        let number : (i : ℕ) → number_in numbers k i ≡ get_or here i 0 = λ i. sym (get_or-drop (5 * k) numbers i 0) in
        ap (λ (r : Relation). numbers_from r)
        (relation_with events (relations_told numbers) (eqb firm 1) (relation_from numbers) (λ e. flag classes (8 * e)) (λ e. flag classes (8 * e + 1)) k l)
        ∙ rw (flag_bit (number_in numbers k 3) (t.bounded_bit k l), number 0, number 1, number 2, number 3, number 4) (first_five here long)

    -- a class in its byte
    pub class_told : (e : ℕ) → e < events → get_or classes e 0 < 256 → class_byte (table_from events firm classes numbers) e ≡ get_or classes e 0
    unfolding table_from
    class_told e l small =
        ap₂ (λ (a b : Bool). bit a ▸ 1 ∶ bit b ▸ 6 ∶ 0)
        (set_has (λ x. flag classes (8 * x)) events e l)
        (set_has (λ x. flag classes (8 * x + 1)) events e l)
        ∙ class_again classes (8 * e) (t.class_clear e l)
        ∙ byte_field classes e small

    -- firm in its number
    pub firm_again : bit (table_from events firm classes numbers).firm ≡ firm
    unfolding table_from
    firm_again = flag_bit firm t.firm_bit

    -- so they tell the table
    pub told_tells : ((i : ℕ) → get_or classes i 0 < 256) → Tells firm classes numbers (table_from events firm classes numbers)
    unfolding table_from
    told_tells bytes =
        record {
          firm_told = sym firm_again;
          class_each = t.class_each;
          class_told = λ e l. sym (class_told e l (bytes e));
          five_each = t.five_each;
          five_told = λ k l. sym (numbers_again k l);
        }

-- an image that is read as a table tells that table's relations and classes
module _ (image : List ℕ) (t : Table) (read : read_table image ≡ record { number = 0; table = t }) where
  pub table_read : table_of image ≡ t
  unfolding table_of
  table_read = ap (λ (a : TableAnswer). a.table) read

  pub number_read : (read_table image).number ≡ 0
  number_read = ap (λ (a : TableAnswer). a.number) read

  pub relation_number_told : (k room : ℕ) → k < t.count → 5 ≤ room → relation_told_number image k room ≡ 0
  unfolding relation_told_number
  relation_number_told k room l long = rw (number_read, table_read, lt-ltb k t.count l, le-ltb room 5 long)

  pub relation_told_lem : (k : ℕ) (places : List ℕ) → k < t.count → 5 ≤ length places
      → relation_told image k places ≡ numbers_from (relation_of t k) ++ drop 5 places
  unfolding relation_told
  relation_told_lem k places l long = rw (relation_number_told k (length places) l long, table_read)

  pub class_number_told : (e : ℕ) → e < t.events → class_told_number image e ≡ 0
  unfolding class_told_number
  class_number_told e l = rw (number_read, table_read, lt-ltb e t.events l)

-- numbers that tell a table: where it can be written, building from them is writing it
module _ (firm : ℕ) (classes numbers : List ℕ) (t : Table) (tells : Tells firm classes numbers t) where
  count_told : relations_told numbers ≡ t.count
  count_told = omega (arith, tells.five_each)

  class_of : (e : ℕ) → e < t.events
      → (flag classes (8 * e) ≡ is_controllable t e) × (flag classes (8 * e + 1) ≡ is_causable t e) × (field classes (8 * e + 2) 6 ≡ 0)
  class_of e l =
      let byte = tells.class_told e l in
      class_back classes (8 * e) (is_controllable t e) (is_causable t e)
      (byte_field classes e (rw byte (class_fits (is_controllable t e) (is_causable t e))) ∙ byte)

  number_of : (k i : ℕ) → k < t.count → i < 5 → number_in numbers k i ≡ get_or (numbers_from (relation_of t k)) i 0
  number_of k i l b =
      sym (get_or-take 5 (drop (5 * k) numbers) i 0 b ∙ get_or-drop (5 * k) numbers i 0) ∙ ap (λ (s : List ℕ). get_or s i 0) (tells.five_told k l)

  relation_of_lem : (k : ℕ) → k < t.count → relation_from numbers k ≡ relation_of t k
  unfolding relation_from
  relation_of_lem k l =
      rw (
        number_of k 0 l (lit< tt),
        number_of k 1 l (lit< tt),
        number_of k 2 l (lit< tt),
        number_of k 3 l (lit< tt),
        number_of k 4 l (lit< tt),
        bit_flag (relation_of t k).bounded,
      )

  table_told : table_from t.events firm classes numbers ≡ unused_empty t
  unfolding table_from unused_empty
  table_told =
      rw (
        count_told,
        tells.firm_told,
        bit_flag t.firm,
        places_same empty_relation (relation_from numbers) (relation_of t) t.count relation_of_lem,
        set_same_test (λ e. flag classes (8 * e)) (is_controllable t) t.events (λ e l. (class_of e l).0),
        set_same_test (λ e. flag classes (8 * e + 1)) (is_causable t) t.events (λ e l. (class_of e l).1),
      )

  numbers_done : (k : ℕ) → k < t.count → relation_number t.events (relation_of t k) ≡ 0 → numbers_number t.events numbers k ≡ 0
  unfolding numbers_number
  numbers_done k l judged =
      let small : number_in numbers k 3 ≤ 1 = omega (arith, number_of k 3 l (lit< tt), bit_lt (relation_of t k).bounded) in
      rw (relation_of_lem k l, judged, le-ltb 1 (number_in numbers k 3) small)

  pub tells_number : (room : ℕ) → write_table_number t room ≡ 0 → build_number t.events firm classes numbers room ≡ 0
  unfolding write_table_number table_number build_number
  tells_number room h =
      let n = t.events in
      let p = both_done (table_number t) _ h in
      let fits = events_fit n && relations_fit t.count in
      let q = both_done (3 if not fits) _ p.0 in
      rw (
        le-ltb 1 firm (omega (arith, tells.firm_told, bit_lt t.firm)),
        count_told,
        not-false fits (if_done 2 _ q.0),
        eq-eqb (length classes) n tells.class_each,
        eq-eqb (length numbers) (5 * t.count) tells.five_each,
        first_done (λ e. 2 if not (eqb (field classes (8 * e + 2) 6) 0)) n (λ e l. rw (class_of e l).2),
        first_done (numbers_number n numbers) t.count
            (λ k l. numbers_done k l (first_each (λ j. relation_number n (relation_of t j)) t.count k q.1 l)),
        if_done 13 (ltb room (table_length n t.count)) p.1,
      )

  pub tells_bytes : (buffer : List ℕ) → write_table_number t (length buffer) ≡ 0 → unused_empty t ≡ t
      → build t.events firm classes numbers buffer ≡ write_table t buffer
  unfolding build write_table
  tells_bytes buffer h empty = rw (tells_number (length buffer) h, h, count_told, table_told, empty)

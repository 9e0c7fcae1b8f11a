-- A table made of plain numbers: how it is judged, and that where nothing is refused it is the table that was told. From
-- there to what is answered and written. Assumes nothing.
use Rattle.std.specs.Prelude.{◌≡◌, true, ◌&&◌, ℕ, ◌-◌, ◌*◌, ◌<◌, ◌≤◌, length}
use Rattle.std.proofs.Common.{◌∙◌, subst, lt-ltb, le-ltb, leb-true, eqb-true}
use Rattle.std.proofs.Math.Path.{ap, sym}
use Rattle.std.proofs.Math.Bool.{not}
use mathlib.Core.List.{List, ◌++◌}
use Rattle.std.proofs.Math.Dec.{eqb, ltb}
use Rattle.std.proofs.Math.ListN.{drop, replicate}
use Rattle.rules.specs.declared.Relation.{Relation}
use Rattle.rules.specs.declared.Table.{Table}
use Rattle.rules.specs.Numbers.{◌if◌, ◌else◌, first_of, done}
use Rattle.rules.specs.EventSet.{set_of}
use Rattle.rules.specs.Holds.{most_events, most_relations, empty_relation, relation_of}
use Rattle.rules.specs.Judge.{events_fit, relations_fit, relation_number, table_number}
use Rattle.rules.specs.Image.{table_length, table_image, write_table_number, write_table}
use Rattle.rules.specs.Building.{relations_told, relation_from, numbers_number, table_from, build_number, build}
use Rattle.rules.specs.Shapes.Good.{GoodRelation}
use Rattle.rules.proofs.Laws.Tests.{both, not_false}
use Rattle.rules.proofs.Laws.Numbers.{if_done, both_done, else_done, else_refused, else_joined, done_alike, first_same}
use Rattle.rules.proofs.Laws.Counting.{places_same}
use Rattle.rules.proofs.Laws.TableWith.{relation_with}
use Rattle.rules.proofs.Laws.Fit.{fit_few}
use Rattle.rules.proofs.Laws.Judge.{good_table}
use Rattle.image.specs.declared.classes.Classes.{Classes}
use Rattle.image.specs.Classes.{class_number, is_controllable_in, is_causable_in, classes_number, classes_of}
use Rattle.duty.specs.Making.{counts_number, held_relation, held_table}
use Rattle.duty.specs.Laws.Answered.{left}
use Rattle.duty.specs.Laws.Held.{relation_judged, relation_kept}

module _ (events firm : ℕ) (classes numbers : List ℕ) where
  -- a refusal leaves every byte
  pub build_left : (number : ℕ) (buffer : List ℕ) → number ≡ build_number events firm classes numbers (length buffer) → (number ≡ 0 → ⊥)
      → buffer ≡ build events firm classes numbers buffer
  unfolding build
  build_left number buffer e h = left (build_number events firm classes numbers (length buffer)) _ buffer (λ z. h (e ∙ z))

  pub firm_refuse : 1 < firm → (room : ℕ) → 2 ≡ build_number events firm classes numbers room
  unfolding build_number
  firm_refuse h room = rw (lt-ltb 1 firm h)

-- firm is 0 or 1
module _ (events firm : ℕ) (classes numbers : List ℕ) (told : firm ≤ 1) where
  abbrev made : Table
  made = held_table events (eqb firm 1) (set_of events (is_controllable_in classes)) (set_of events (is_causable_in classes)) numbers

  abbrev counts : ℕ
  counts = counts_number events (length classes) (length numbers)

  relation_made : (k : ℕ) → k < relations_told numbers → relation_of made k ≡ held_relation numbers k
  relation_made = relation_with events (relations_told numbers) (eqb firm 1) (held_relation numbers) (is_controllable_in classes) (is_causable_in classes)

  -- the numbers in their order, by the functions that give them
  in_order : (room : ℕ) → build_number events firm classes numbers room
      ≡ (counts else first_of events (class_number classes) else first_of (relations_told numbers) (numbers_number events numbers)
      else 14 if ltb room (table_length events (relations_told numbers)))
  unfolding build_number
  in_order room = rw (le-ltb 1 firm told) (sym (else_joined (3 if not (events_fit events && relations_fit (relations_told numbers))) _ _))

  pub counts_refuse : (number : ℕ) → number ≡ counts → (number ≡ 0 → ⊥) → (room : ℕ) → number ≡ build_number events firm classes numbers room
  counts_refuse number e h room = e ∙ sym (in_order room ∙ else_refused _ (λ z. h (e ∙ z)))

  module _ (counted : counts ≡ 0) where
    fit : (events_fit events && relations_fit (relations_told numbers)) ≡ true
    fit = not_false _ (if_done 2 _ (both_done (3 if not (events_fit events && relations_fit (relations_told numbers))) _ counted).0)

    pub events_few : events ≤ most_events
    events_few = fit_few events (both (events_fit events) _ fit).0

    pub relations_few : relations_told numbers ≤ most_relations
    relations_few = leb-true (relations_told numbers) most_relations (both (events_fit events) _ fit).1

    pub classes_long : length classes ≡ events
    classes_long =
        let exact = eqb (length classes) events && eqb (length numbers) (5 * relations_told numbers) in
        let parts = both_done (3 if not (events_fit events && relations_fit (relations_told numbers))) _ counted in
        let known : exact ≡ true = not_false exact (if_done 0 (not exact) parts.1) in
        eqb-true (length classes) events (both (eqb (length classes) events) _ known).0

    table_judged_lem : table_number made ≡ first_of (relations_told numbers) (numbers_number events numbers)
    unfolding table_number
    table_judged_lem =
        rw fit (first_same _ (numbers_number events numbers) (relations_told numbers)
        (λ k b. ap (relation_number events) (relation_made k b) ∙ relation_judged events events_few numbers k))

    made_told : table_number made ≡ 0 → made ≡ table_from events firm classes numbers
    unfolding table_from
    made_told h =
        ap (λ (l : List Relation). record {
          relations = l ++ replicate (most_relations - relations_told numbers) empty_relation;
          controllable = set_of events (is_controllable_in classes);
          causable = set_of events (is_causable_in classes);
          events = events;
          count = relations_told numbers;
          firm = eqb firm 1;
        })
        (places_same empty_relation (held_relation numbers) (relation_from numbers) (relations_told numbers)
        (λ k b. relation_kept events events_few numbers k (subst (GoodRelation events) (relation_made k b) ((good_table made h).relations_good k b))))

    -- the classes
    module _ {number : ℕ} (number_is : number ≡ classes_number classes) where
      classes_told : number ≡ first_of events (class_number classes)
      classes_told = number_is ∙ ap (λ (n : ℕ). first_of n (class_number classes)) classes_long

      pub classes_refuse : (number ≡ 0 → ⊥) → (room : ℕ) → number ≡ build_number events firm classes numbers room
      classes_refuse h room = classes_told ∙ sym (in_order room ∙ else_done _ counted ∙ else_refused _ (λ z. h (classes_told ∙ z)))

      module _ (clear : number ≡ 0) where
        number_made : (room : ℕ) → write_table_number made room ≡ build_number events firm classes numbers room
        unfolding write_table_number
        number_made room =
            ap (λ (n : ℕ). n else 14 if ltb room (table_length events (relations_told numbers))) table_judged_lem
            ∙ sym (in_order room ∙ else_done _ counted ∙ else_done _ (sym classes_told ∙ clear))

        bytes_made : (buffer : List ℕ) → write_table made buffer ≡ build events firm classes numbers buffer
        unfolding write_table build write_table_number
        bytes_made buffer =
            ap (λ (n : ℕ). done n (table_image made ++ drop (table_length events (relations_told numbers)) buffer) buffer) (number_made (length buffer))
            ∙ done_alike (build_number events firm classes numbers (length buffer)) _ _ buffer
            (λ z.
            ap (λ (t : Table). table_image t ++ drop (table_length events (relations_told numbers)) buffer)
            (made_told (both_done (table_number made) _ (number_made (length buffer) ∙ z)).0))

        pub table_written_lem : (t : Table) (sets : Classes) → sets ≡ classes_of classes
            → t ≡ held_table events (eqb firm 1) sets.controllable sets.causable numbers
            → (buffer : List ℕ) (said : ℕ) (put : List ℕ) → said ≡ write_table_number t (length buffer) → put ≡ write_table t buffer
            → (said ≡ build_number events firm classes numbers (length buffer)) × (put ≡ build events firm classes numbers buffer)
        table_written_lem t sets sets-are t-is buffer said put n p =
            let same : t ≡ made = t-is ∙ rw (sets-are, classes_long) in (
              n ∙ ap (λ (x : Table). write_table_number x (length buffer)) same ∙ number_made (length buffer),
              p ∙ ap (λ (x : Table). write_table x buffer) same ∙ bytes_made buffer,
            )

-- What a table and a marking that are judged 'done' satisfy, and what keeps them so. Assumes nothing.
use Rattle.std.specs.Prelude.{◌≡◌, refl, true, not, ◌&&◌, ℕ, ◌<◌, eqb, leb, ltb}
use Rattle.std.proofs.Common.{◌∙◌, leb-true, ltb-true, eqb-true, eq-eqb, le-leb}
use Rattle.std.proofs.Math.Path.{ap}
use Rattle.rules.specs.declared.Relation.{Relation}
use Rattle.rules.specs.declared.Table.{Table}
use Rattle.rules.specs.declared.Marking.{Marking}
use Rattle.rules.specs.Numbers.{◌if◌, ◌else◌}
use Rattle.rules.specs.Holds.{most_events, most_relations, relation_of, record_of}
use Rattle.rules.specs.Judge.{events_fit, relations_fit, time_fits, relation_number, table_number, record_fits, record_number, marking_number, marking_number_for}
use Rattle.rules.specs.Judge.{judged, event_number}
use Rattle.rules.specs.Shapes.Good.{GoodRelation, GoodTable, GoodMarking, Good}
use Rattle.rules.proofs.Laws.Tests.{both, join, not_false}
use Rattle.rules.proofs.Laws.Numbers.{if_done, if_kept, both_done, first_each, first_done}

good_relation : (events : ℕ) (k : Relation) → relation_number events k ≡ 0 → GoodRelation events k
unfolding relation_number
good_relation events k h =
    let Kind-ok = leb 1 k.kind && leb k.kind 5 in
    let ends-ok = ltb k.left events && ltb k.right events in
    let p = both_done (4 if not Kind-ok) _ h in
    let q = both_done (5 if not ends-ok) _ p.1 in
    let kinds = both (leb 1 k.kind) (leb k.kind 5) (not_false Kind-ok (if_done 3 (not Kind-ok) p.0)) in
    let ends = both (ltb k.left events) (ltb k.right events) (not_false ends-ok (if_done 4 (not ends-ok) q.0)) in
    record {
      left_exists = ltb-true k.left events ends.0;
      right_exists = ltb-true k.right events ends.1;
      kind_some = leb-true 1 k.kind kinds.0;
      kind_small = leb-true k.kind 5 kinds.1;
      fits = not_false (time_fits k) (if_done 5 (not (time_fits k)) q.1);
    }

pub good_table : (t : Table) → table_number t ≡ 0 → GoodTable t
unfolding table_number
good_table t h =
    let counts-ok = events_fit t.events && relations_fit t.count in
    let p = both_done (3 if not counts-ok) _ h in
    let counts = both (events_fit t.events) (relations_fit t.count) (not_false counts-ok (if_done 2 (not counts-ok) p.0)) in
    let events = both (leb 1 t.events) (leb t.events most_events) counts.0 in
    record {
      some_events = leb-true 1 t.events events.0;
      few_events = leb-true t.events most_events events.1;
      few_relations = leb-true t.count most_relations counts.1;
      relations_good = λ k b. good_relation t.events (relation_of t k) (first_each (λ k. relation_number t.events (relation_of t k)) t.count k p.1 b);
    }

pub good_marking : (events : ℕ) (m : Marking) → marking_number_for events m ≡ 0 → GoodMarking events m
unfolding marking_number_for marking_number
good_marking events m h =
    let p = both_done (3 if not (events_fit events)) _ h in
    let q = both_done (1 if not (eqb m.events events)) _ p.1 in
    let r = both_done (3 if not (events_fit m.events)) _ q.1 in
    let e : m.events ≡ events = eqb-true m.events events (not_false _ (if_done 0 (not (eqb m.events events)) q.0)) in
    record {
      same_events = e;
      records_fit = λ x b.
          let done = first_each (λ e. record_number (record_of m e)) m.events x r.1 (rw e b) in
          not_false (record_fits (record_of m x)) (if_done 6 (not (record_fits (record_of m x))) done);
    }

pub good : (t : Table) (m : Marking) → judged t m ≡ 0 → Good t m
unfolding judged
good t m h =
    let p = both_done (table_number t) (marking_number_for t.events m) h in
    record { table_good = good_table t p.0; marking_good = good_marking t.events m p.1 }

-- with other records that fit it is judged 'done' again
pub judged_again : (t : Table) (m n : Marking) → judged t m ≡ 0 → n.events ≡ m.events
    → ((x : ℕ) → x < m.events → record_fits (record_of m x) ≡ true → record_fits (record_of n x) ≡ true) → judged t n ≡ 0
unfolding judged marking_number_for marking_number
judged_again t m n h same fits =
    let p = both_done (table_number t) (marking_number_for t.events m) h in
    let g = good t m h in
    let events : m.events ≡ t.events = g.marking_good.same_events in
    let few : events_fit t.events ≡ true =
    join (le-leb 1 t.events g.table_good.some_events) (le-leb t.events most_events g.table_good.few_events) in
    rw (p.0, few, same ∙ events, eq-eqb t.events t.events refl, few)
    (first_done (λ e. record_number (record_of n e)) t.events
    (λ x b. if_kept 7 (ap not (fits x (rw events b) (g.marking_good.records_fit x b)))))

-- numbers that are asked for one after the other
module _ (t : Table) (m : Marking) where
  -- the table's number, else the marking's
  pub judged_by : {first number : ℕ} → first ≡ table_number t → number ≡ (first else marking_number_for t.events m) → number ≡ judged t m
  unfolding judged
  judged_by p q = q ∙ ap (λ (n : ℕ). n else marking_number_for t.events m) p

  -- else the event's
  pub event_by : (event : ℕ) {first number : ℕ} → first ≡ judged t m → number ≡ (first else 8 if not (ltb event t.events))
      → number ≡ (judged t m else event_number t event)
  event_by event p q = q ∙ ap (λ (n : ℕ). n else event_number t event) p

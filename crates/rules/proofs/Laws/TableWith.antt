-- A table that is told by its parts, each by its number, its unused places empty: its relations, that it is judged 'done' where they are, and that
-- it is the same with its unused places empty. Assumes nothing.
use Rattle.std.specs.Prelude.{◌≡◌, Bool, true, ◌&&◌, ℕ, ◌-◌, ◌<◌, replicate}
use Rattle.std.proofs.Math.Path.{ap}
use Rattle.std.proofs.Common.{◌∙◌}
use Rattle.std.proofs.Math.ListN.{get_or-append}
use Rattle.rules.specs.declared.Relation.{Relation}
use Rattle.rules.specs.Counting.{places}
use Rattle.rules.specs.EventSet.{has, set_of}
use Rattle.rules.specs.Holds.{most_relations, empty_relation, relation_of}
use Rattle.rules.specs.Judge.{events_fit, relations_fit, relation_number, table_number}
use Rattle.rules.specs.Image.{table_with, unused_empty}
use Rattle.rules.proofs.Laws.Counting.{length_places, places_at, places_same}
use Rattle.rules.proofs.Laws.EventSet.{set_has, set_same_test}
use Rattle.rules.proofs.Laws.Numbers.{first_done}

module _ (events count : ℕ) (firm : Bool) (relation : ℕ → Relation) (controllable causable : ℕ → Bool) where
  pub relation_with : (k : ℕ) → k < count → relation_of (table_with events count firm relation controllable causable) k ≡ relation k
  relation_with k l =
      get_or-append (places count relation) (replicate (most_relations - count) empty_relation) empty_relation k (rw (length_places relation count) l)
      ∙ places_at relation count k empty_relation l

  pub with_done : events_fit events && relations_fit count ≡ true → ((k : ℕ) → k < count → relation_number events (relation k) ≡ 0)
      → table_number (table_with events count firm relation controllable causable) ≡ 0
  unfolding table_number
  with_done fit done =
      rw fit
      (first_done (λ k. relation_number events (relation_of (table_with events count firm relation controllable causable) k)) count
      (λ k l. ap (relation_number events) (relation_with k l) ∙ done k l))

  pub with_unused : unused_empty (table_with events count firm relation controllable causable) ≡ table_with events count firm relation controllable causable
  unfolding unused_empty
  with_unused =
      rw (
        places_same empty_relation (relation_of (table_with events count firm relation controllable causable)) relation count relation_with,
        set_same_test (has (set_of events controllable)) controllable events (set_has controllable events),
        set_same_test (has (set_of events causable)) causable events (set_has causable events),
      )

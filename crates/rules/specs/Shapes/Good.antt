-- What a table and a marking that are judged 'done' have: what inner functions ask of decoded values that a public call has judged.
use Rattle.std.specs.Prelude.{◌≡◌, true, ℕ, ◌<◌, ◌≤◌}
use Rattle.rules.specs.declared.Relation.{Relation}
use Rattle.rules.specs.declared.Table.{Table}
use Rattle.rules.specs.declared.Marking.{Marking}
use Rattle.rules.specs.Holds.{most_events, most_relations, relation_of, record_of}
use Rattle.rules.specs.Judge.{time_fits, record_fits}

-- a relation that is judged 'done'
pub record GoodRelation (events : ℕ) (k : Relation) : Type 0 where
  pub left_exists : k.left < events
  pub right_exists : k.right < events
  pub kind_some : 1 ≤ k.kind
  pub kind_small : k.kind ≤ 5
  pub fits : time_fits k ≡ true

-- a table that is judged 'done'
pub record GoodTable (t : Table) : Type 0 where
  pub some_events : 1 ≤ t.events
  pub few_events : t.events ≤ most_events
  pub few_relations : t.count ≤ most_relations
  pub relations_good : (k : ℕ) → k < t.count → GoodRelation t.events (relation_of t k)

-- a marking for so many events that is judged 'done'
pub record GoodMarking (events : ℕ) (m : Marking) : Type 0 where
  pub same_events : m.events ≡ events
  pub records_fit : (e : ℕ) → e < events → record_fits (record_of m e) ≡ true

-- what both give
pub record Good (t : Table) (m : Marking) : Type 0 where
  pub table_good : GoodTable t
  pub marking_good : GoodMarking t.events m

-- What the engine holds: the kinds of relation, the limits, empty places, and how a table and a marking are read.
use Rattle.std.specs.Prelude.{Bool, false, ℕ, eqb, get_or, replicate}
use Rattle.rules.specs.declared.Relation.{Relation}
use Rattle.rules.specs.declared.Table.{Table}
use Rattle.rules.specs.declared.Record.{Record}
use Rattle.rules.specs.declared.Marking.{Marking}
use Rattle.rules.specs.EventSet.{has}

-- ages, times and deadlines are at most this
abbrev pub limit : ℕ
limit = 1_000_000_000

-- a count is held at this
abbrev pub count_limit : ℕ
count_limit = 4_294_967_295

-- a table has at most so many events, and at most so many relations
abbrev pub most_events : ℕ
most_events = 64

abbrev pub most_relations : ℕ
most_relations = 256

-- 1 condition: left needs right at least time ago
abbrev pub is_condition : Relation → Bool
is_condition k = eqb k.kind 1

-- 2 response: left makes right pending
abbrev pub is_response : Relation → Bool
is_response k = eqb k.kind 2

-- 3 left includes right; 4 left excludes right; 5 left has right as milestone
abbrev pub is_inclusion : Relation → Bool
is_inclusion k = eqb k.kind 3

abbrev pub is_exclusion : Relation → Bool
is_exclusion k = eqb k.kind 4

abbrev pub is_milestone : Relation → Bool
is_milestone k = eqb k.kind 5

-- Empty means every field 0.
abbrev pub empty_relation : Relation
empty_relation = record { kind = 0; left = 0; right = 0; bounded = false; time = 0 }

abbrev pub empty_record : Record
empty_record = record { age = 0; deadline = 0; happened = false; included = false; pending = false; bounded = false; count = 0 }

abbrev pub empty_table : Table
empty_table = record { relations = replicate most_relations empty_relation; controllable = 0; causable = 0; events = 0; count = 0; firm = false }

abbrev pub empty_marking : Marking
empty_marking = record { records = replicate most_events empty_record; events = 0 }

-- relation k of a table; the record of event e in a marking
abbrev pub relation_of : Table → ℕ → Relation
relation_of t k = get_or t.relations k empty_relation

abbrev pub record_of : Marking → ℕ → Record
record_of m e = get_or m.records e empty_record

-- the classes of an event
abbrev pub is_controllable : Table → ℕ → Bool
is_controllable t e = has t.controllable e

abbrev pub is_causable : Table → ℕ → Bool
is_causable t e = has t.causable e

-- a marking with other records
abbrev pub with_records : Marking → mathlib.Core.List.List Record → Marking
with_records m records = record { records = records; events = m.events }

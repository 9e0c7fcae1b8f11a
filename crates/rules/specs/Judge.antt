-- Decoded values are judged as the reader would judge their image, table first; also values that no image can hold.
use Rattle.std.specs.Prelude.{Bool, true, not, ◌&&◌, cond, ℕ, eqb, leb, ltb}
use Rattle.rules.specs.declared.Relation.{Relation}
use Rattle.rules.specs.declared.Table.{Table}
use Rattle.rules.specs.declared.Record.{Record}
use Rattle.rules.specs.declared.Marking.{Marking}
use Rattle.rules.specs.Numbers.{◌if◌, ◌else◌, first_of}
use Rattle.rules.specs.Holds.{limit, count_limit, most_events, most_relations, is_condition, is_response, relation_of, record_of}

-- 1 to 64 events, 0 to 256 relations
abbrev pub events_fit : ℕ → Bool
events_fit n = leb 1 n && leb n most_events

abbrev pub relations_fit : ℕ → Bool
relations_fit n = leb n most_relations

-- bounded and time fit the kind. A condition: 1; 0 to the limit. A response: 1; 1 to the limit, or 0; 0. Any other: 0; 0
unfoldable pub time_fits : Relation → Bool
time_fits k =
    cond (is_condition k) (k.bounded && leb k.time limit)
    (cond (is_response k) (cond k.bounded (leb 1 k.time && leb k.time limit) (eqb k.time 0))
    (not k.bounded && eqb k.time 0))

-- a relation of a table with so many events: 4, 5, 6
unfoldable pub relation_number : ℕ → Relation → ℕ
relation_number events k =
    4 if not (leb 1 k.kind && leb k.kind 5)
    else 5 if not (ltb k.left events && ltb k.right events)
    else 6 if not (time_fits k)

-- a table: 3, then each relation in order
unfoldable pub table_number : Table → ℕ
table_number t =
    3 if not (events_fit t.events && relations_fit t.count)
    else first_of t.count (λ k. relation_number t.events (relation_of t k))

-- Age is 0 if not happened; bounded and deadline are 0 if not pending; deadline is 0 if not bounded; both are at most the limit.
unfoldable pub state_fits : Record → Bool
state_fits r =
    leb r.age (cond r.happened limit 0)
    && (cond r.pending true (not r.bounded) && leb r.deadline (cond r.bounded limit 0))

-- A count is 0 if not happened, else 1 to its limit.
unfoldable pub count_fits_lem : Record → Bool
count_fits_lem r = cond r.happened (leb 1 r.count && leb r.count count_limit) (eqb r.count 0)

unfoldable pub record_fits : Record → Bool
record_fits r = state_fits r && count_fits_lem r

abbrev pub record_number : Record → ℕ
record_number r = 7 if not (record_fits r)

-- a marking by itself: 3, 7
unfoldable pub marking_number : Marking → ℕ
marking_number m = 3 if not (events_fit m.events) else first_of m.events (λ e. record_number (record_of m e))

-- a marking for so many events: 3, 1 where it has another event count, 7
unfoldable pub marking_number_for : ℕ → Marking → ℕ
marking_number_for events m = 3 if not (events_fit events) else 1 if not (eqb m.events events) else marking_number m

-- table first, then marking
unfoldable pub judged : Table → Marking → ℕ
judged t m = table_number t else marking_number_for t.events m

-- an event, or a relation, asked about does not exist
abbrev pub event_number : Table → ℕ → ℕ
event_number t e = 8 if not (ltb e t.events)

-- The shop: example P of docs/RULES.md, and the small tables of the other cases.
use Rattle.std.specs.Prelude.{Bool, true, false, List, [], ◌∷◌, ◌++◌, ℕ, ◌+◌, ◌-◌, ◌^◌, length, replicate}
use Rattle.rules.specs.declared.Relation.{Relation}
use Rattle.rules.specs.declared.Table.{Table}
use Rattle.rules.specs.declared.Record.{Record}
use Rattle.rules.specs.declared.Marking.{Marking}
use Rattle.rules.specs.declared.Step.{Step}
use Rattle.rules.specs.Holds.{most_events, most_relations, empty_relation, empty_record}
use Rattle.rules.specs.Including.{with_included}

-- relations, by what they say
abbrev pub condition : ℕ → ℕ → ℕ → Relation
condition e f k = record { kind = 1; left = e; right = f; bounded = true; time = k }

abbrev pub response : ℕ → ℕ → ℕ → Relation
response e f d = record { kind = 2; left = e; right = f; bounded = true; time = d }

abbrev pub eventually : ℕ → ℕ → Relation
eventually e f = record { kind = 2; left = e; right = f; bounded = false; time = 0 }

abbrev pub includes : ℕ → ℕ → Relation
includes e f = record { kind = 3; left = e; right = f; bounded = false; time = 0 }

abbrev pub excludes : ℕ → ℕ → Relation
excludes e f = record { kind = 4; left = e; right = f; bounded = false; time = 0 }

abbrev pub milestone : ℕ → ℕ → Relation
milestone e f = record { kind = 5; left = e; right = f; bounded = false; time = 0 }

-- a table, unused places empty; a marking, event places past the count empty
abbrev pub table : ℕ → ℕ → ℕ → List Relation → Table
table n controllable causable relations = record {
  relations = relations ++ replicate (most_relations - length relations) empty_relation;
  controllable = controllable;
  causable = causable;
  events = n;
  count = length relations;
  firm = false;
}

-- the same table, firm
abbrev pub firmly : Table → Table
firmly t = record {
  relations = t.relations;
  controllable = t.controllable;
  causable = t.causable;
  events = t.events;
  count = t.count;
  firm = true;
}

abbrev pub marking : List Record → Marking
marking records = record { records = records ++ replicate (most_events - length records) empty_record; events = length records }

-- records, by what they say
abbrev pub idle : Record
idle = record { age = 0; deadline = 0; happened = false; included = true; pending = false; bounded = false; count = 0 }

abbrev pub excluded : Record
excluded = record { age = 0; deadline = 0; happened = false; included = false; pending = false; bounded = false; count = 0 }

-- pending within d ticks, included or not
abbrev pub pending_within : Bool → ℕ → Record
pending_within i d = record { age = 0; deadline = d; happened = false; included = i; pending = true; bounded = true; count = 0 }

-- pending eventually
abbrev pub eventually_pending : Record
eventually_pending = record { age = 0; deadline = 0; happened = false; included = true; pending = true; bounded = false; count = 0 }

-- happened so long ago, so often, not pending; and once
abbrev pub happened_times : ℕ → ℕ → Record
happened_times a n = record { age = a; deadline = 0; happened = true; included = true; pending = false; bounded = false; count = n }

abbrev pub happened : ℕ → Record
happened a = happened_times a 1

-- the same record, its event excluded
abbrev pub away : Record → Record
away r = with_included false r

-- steps; kind 1 means what kind 0 does
abbrev pub happens : ℕ → Step
happens e = record { kind = 0; event = e }

abbrev pub happens_too : ℕ → Step
happens_too e = record { kind = 1; event = e }

abbrev pub plain : Step
plain = record { kind = 2; event = 0 }

abbrev pub guarded : Step
guarded = record { kind = 3; event = 0 }

-- P: event 0 leak (uncontrollable), 1 flush, 2 isolate, 4 drain (controllable, causable), 3 standby (uncontrollable)
abbrev pub leak : Step
leak = happens_too 0

abbrev pub standby : Step
standby = happens_too 3

abbrev pub p_relations : List Relation
p_relations =
    response 0 1 3
    ∷ condition 1 2 0
    ∷ includes 0 1
    ∷ excludes 3 1
    ∷ milestone 1 4
    ∷ eventually 0 4
    ∷ []

abbrev pub p_class : ℕ
p_class = 2 ^ 1 + 2 ^ 2 + 2 ^ 4

abbrev pub P : Table
P = table 5 p_class p_class p_relations

-- P as an image: what stands behind the header, the whole with the header's last two bytes, and with those 0
abbrev pub p_rest : List ℕ
p_rest =
    (0x00 ∷ 0xC0 ∷ 0xC0 ∷ 0x00 ∷ 0xC0 ∷ [])
    ++ (0x40 ∷ 0x03 ∷ 0x00 ∷ 0x00 ∷ 0x00 ∷ 0x0C ∷ [])
    ++ (0x20 ∷ 0x85 ∷ 0x00 ∷ 0x00 ∷ 0x00 ∷ 0x00 ∷ [])
    ++ (0x60 ∷ 0x02 ∷ 0x00 ∷ 0x00 ∷ 0x00 ∷ 0x00 ∷ [])
    ++ (0x81 ∷ 0x82 ∷ 0x00 ∷ 0x00 ∷ 0x00 ∷ 0x00 ∷ [])
    ++ (0xA0 ∷ 0x88 ∷ 0x00 ∷ 0x00 ∷ 0x00 ∷ 0x00 ∷ [])
    ++ (0x40 ∷ 0x08 ∷ 0x00 ∷ 0x00 ∷ 0x00 ∷ 0x00 ∷ [])

abbrev pub p_headed : ℕ → ℕ → List ℕ
p_headed third fourth = (0x0A ∷ 0x06 ∷ third ∷ fourth ∷ []) ++ p_rest

abbrev pub p_image : List ℕ
p_image = p_headed 0x00 0x00

-- in plain numbers: a class byte for each event, and five numbers for each relation
abbrev pub p_classes : List ℕ
p_classes = 0x00 ∷ 0xC0 ∷ 0xC0 ∷ 0x00 ∷ 0xC0 ∷ []

abbrev pub p_numbers : List ℕ
p_numbers =
    (2 ∷ 0 ∷ 1 ∷ 1 ∷ 3 ∷ [])
    ++ (1 ∷ 1 ∷ 2 ∷ 1 ∷ 0 ∷ [])
    ++ (3 ∷ 0 ∷ 1 ∷ 0 ∷ 0 ∷ [])
    ++ (4 ∷ 3 ∷ 1 ∷ 0 ∷ 0 ∷ [])
    ++ (5 ∷ 1 ∷ 4 ∷ 0 ∷ 0 ∷ [])
    ++ (2 ∷ 0 ∷ 4 ∷ 0 ∷ 0 ∷ [])

-- P with relation 6 added
abbrev pub P+ : Relation → Table
P+ k = table 5 p_class p_class (p_relations ++ (k ∷ []))

-- P with isolate not causable; P with relation 1 at time 1
abbrev pub P-uncausable : Table
P-uncausable = table 5 p_class (2 ^ 1 + 2 ^ 4) p_relations

abbrev pub P-timed : Table
P-timed =
    table 5 p_class p_class
    (response 0 1 3
    ∷ condition 1 2 1
    ∷ includes 0 1
    ∷ excludes 3 1
    ∷ milestone 1 4
    ∷ eventually 0 4
    ∷ [])

-- Start: fresh, flush excluded
abbrev pub start : Marking
start = marking (idle ∷ excluded ∷ idle ∷ idle ∷ idle ∷ [])

-- a leak, and then three guarded ticks: flush is due
abbrev pub leak_then_three : List Step
leak_then_three = leak ∷ guarded ∷ guarded ∷ guarded ∷ []

-- a leak, two guarded ticks, and a leak again while flush has one tick left
abbrev pub leak_twice : List Step
leak_twice = leak ∷ guarded ∷ guarded ∷ leak ∷ []

abbrev pub leak_standby_five : List Step
leak_standby_five = leak ∷ guarded ∷ standby ∷ guarded ∷ guarded ∷ guarded ∷ guarded ∷ guarded ∷ []

-- one condition, of time 5
abbrev pub waits5 : Table
waits5 = table 2 3 3 (condition 0 1 5 ∷ [])

-- the images of the hex case
abbrev pub hex_table : List ℕ
hex_table = 0x04 ∷ 0x01 ∷ 0x00 ∷ 0x00 ∷ 0x40 ∷ 0x80 ∷ 0x40 ∷ 0x01 ∷ 0x00 ∷ 0x00 ∷ 0x00 ∷ 0x04 ∷ []

abbrev pub hex_marking : List ℕ
hex_marking = (0x00 ∷ 0x00 ∷ 0x00 ∷ 0x01 ∷ 0xC0 ∷ 0x00 ∷ 0x00 ∷ 0x00 ∷ 0x00 ∷ 0x00 ∷ 0x00 ∷ 0x00 ∷ []) ++ replicate 12 0

abbrev pub hex_record : List ℕ
hex_record = 0x80 ∷ 0x00 ∷ 0x00 ∷ 0x03 ∷ 0xC0 ∷ 0x00 ∷ 0x00 ∷ 0x00 ∷ 0x00 ∷ 0x00 ∷ 0x00 ∷ 0x01 ∷ []

-- an old image of the same two events: the one has happened, the other not
abbrev pub hex_old : List ℕ
hex_old = (0x80 ∷ 0x00 ∷ 0x00 ∷ 0x03 ∷ 0xC0 ∷ 0x00 ∷ 0x00 ∷ 0x00 ∷ []) ++ replicate 8 0

-- A table as it is made of plain numbers, before it is judged: what the functions of the building hold.
use Rattle.std.specs.Prelude.{Bool, not, ◌&&◌, cond, List, ◌++◌, ℕ, ◌-◌, ◌*◌, ◌/◌, eqb, ltb, replicate}
use Rattle.rules.specs.declared.Relation.{Relation}
use Rattle.rules.specs.declared.Table.{Table}
use Rattle.rules.specs.Counting.{places}
use Rattle.rules.specs.Numbers.{◌if◌, ◌else◌}
use Rattle.rules.specs.Holds.{most_relations, empty_relation}
use Rattle.rules.specs.Judge.{events_fit, relations_fit}
use Rattle.rules.specs.Building.{relations_told, number_in}

-- how many events, class bytes and numbers there are: 3, 1
abbrev pub counts_number : ℕ → ℕ → ℕ → ℕ
counts_number events classes numbers =
    3 if not (events_fit events && relations_fit (numbers / 5)) else 1 if not (eqb classes events && eqb numbers (5 * (numbers / 5)))

-- a number in a byte, 255 for any number above
unfoldable pub held : ℕ → ℕ
held n = cond (ltb 255 n) 255 n

-- a time; where bounded is neither 0 nor 1, one that no kind takes
unfoldable pub held_time : ℕ → ℕ → ℕ
held_time bounded time = cond (ltb 1 bounded) 4_294_967_295 time

unfoldable pub held_relation : List ℕ → ℕ → Relation
held_relation numbers k = record {
  kind = held (number_in numbers k 0);
  left = held (number_in numbers k 1);
  right = held (number_in numbers k 2);
  bounded = eqb (number_in numbers k 3) 1;
  time = held_time (number_in numbers k 3) (number_in numbers k 4);
}

-- all of them, unused places empty
abbrev pub held_relations : List ℕ → List Relation
held_relations numbers =
    places (relations_told numbers) (held_relation numbers) ++ replicate (most_relations - relations_told numbers) empty_relation

abbrev pub held_table : ℕ → Bool → ℕ → ℕ → List ℕ → Table
held_table events firm controllable causable numbers = record {
  relations = held_relations numbers;
  controllable = controllable;
  causable = causable;
  events = events;
  count = relations_told numbers;
  firm = firm;
}

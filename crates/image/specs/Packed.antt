-- A relation as parts of the one number that its bytes hold, and as that number; a record likewise, but for its count, which stands behind that
-- number; a header and a class as that number.
use Rattle.std.specs.Prelude.{Bool, ℕ, ◌/◌, ◌%◌, ◌^◌, eqb}
use Rattle.rules.specs.declared.Relation.{Relation}
use Rattle.rules.specs.declared.Record.{Record}
use Rattle.rules.specs.EventSet.{has}
use Rattle.rules.specs.Fields.{◌▸◌, ◌∶◌, bit}

-- kind 3, left 6, right 6, bounded 1, time 30, spare 2
abbrev pub relation_of_word : ℕ → Relation
relation_of_word w = record {
  kind = w / 2 ^ 45 % 2 ^ 3;
  left = w / 2 ^ 39 % 2 ^ 6;
  right = w / 2 ^ 33 % 2 ^ 6;
  bounded = eqb (w / 2 ^ 32 % 2) 1;
  time = w / 2 ^ 2 % 2 ^ 30;
}

abbrev pub word_of_relation : Relation → ℕ
word_of_relation k = k.kind ▸ 6 ∶ k.left ▸ 6 ∶ k.right ▸ 1 ∶ bit k.bounded ▸ 30 ∶ k.time ▸ 2 ∶ 0

-- its first 2 bytes, before the time
abbrev pub ends_word : ℕ → ℕ → ℕ → Bool → ℕ
ends_word kind left right bounded = kind ▸ 6 ∶ left ▸ 6 ∶ right ▸ 1 ∶ bit bounded

-- controllable 1, causable 1, spare 6: event e of two sets
abbrev pub class_word : ℕ → ℕ → ℕ → ℕ
class_word controllable causable e = bit (has controllable e) ▸ 1 ∶ bit (has causable e) ▸ 6 ∶ 0

-- events 7, relations 9, firm 1, spare 15
abbrev pub header_word : ℕ → ℕ → Bool → ℕ
header_word events count firm = events ▸ 9 ∶ count ▸ 1 ∶ bit firm ▸ 15 ∶ 0

-- before the count: happened 1, age 30, included 1, pending 1, bounded 1, deadline 30
abbrev pub record_of_word : ℕ → ℕ → Record
record_of_word w count = record {
  age = w / 2 ^ 33 % 2 ^ 30;
  deadline = w % 2 ^ 30;
  happened = eqb (w / 2 ^ 63 % 2) 1;
  included = eqb (w / 2 ^ 32 % 2) 1;
  pending = eqb (w / 2 ^ 31 % 2) 1;
  bounded = eqb (w / 2 ^ 30 % 2) 1;
  count = count;
}

abbrev pub word_of_record : Record → ℕ
word_of_record r =
    bit r.happened ▸ 30 ∶ r.age ▸ 1 ∶ bit r.included ▸ 1 ∶ bit r.pending ▸ 1 ∶ bit r.bounded ▸ 30 ∶ r.deadline

-- and with the count, 32, behind it
abbrev pub whole_of_record : Record → ℕ
whole_of_record r = word_of_record r ▸ 32 ∶ r.count

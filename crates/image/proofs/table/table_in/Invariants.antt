-- `image::table::table_in` meets its contract: after k turns the first k relations are read, none of them gives a number, and the places past
-- them are empty.
use Rattle.std.proofs.Common.{◌≡◌, ◌-◌, ◌++◌, replicate}
use Rattle.rules.specs.Counting.{places}
use Rattle.rules.specs.Holds.{most_relations, empty_relation}
use Rattle.rules.specs.Image.{relation_at, relation_bit}
use Rattle.image.specs.Parts.{relations_number}
use Rattle.image.proofs.table.table_in.Given as goal

abbrev pub invariant-loop-k : goal.invariant-loop-k
invariant-loop-k l = record {
  filled : l.relations ≡ places l.k (λ k. relation_at l.image (relation_bit l.header.events k)) ++ replicate (most_relations - l.k) empty_relation;
  clear : relations_number l.image l.header.events l.k ≡ 0;
}

-- `image::judge::relations` meets its contract: none of the first i relations gives a number.
use Rattle.std.proofs.Common.{◌≡◌}
use Rattle.rules.specs.Holds.{relation_of}
use Rattle.rules.specs.Judge.{relation_number}
use Rattle.rules.specs.Numbers.{first_of}
use Rattle.image.proofs.judge.relations.Given as goal

abbrev pub invariant-loop-k : goal.invariant-loop-k
invariant-loop-k l = first_of l.k-index (λ k. relation_number l.t.events (relation_of l.t k)) ≡ 0

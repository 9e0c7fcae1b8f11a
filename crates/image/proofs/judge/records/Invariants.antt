-- `image::judge::records` meets its contract: none of the first i records gives a number.
use Rattle.std.proofs.Common.{◌≡◌}
use Rattle.rules.specs.Holds.{record_of}
use Rattle.rules.specs.Judge.{record_number}
use Rattle.rules.specs.Numbers.{first_of}
use Rattle.image.proofs.judge.records.Given as goal

abbrev pub invariant-loop-r : goal.invariant-loop-r
invariant-loop-r l = first_of l.r-index (λ e. record_number (record_of l.m e)) ≡ 0

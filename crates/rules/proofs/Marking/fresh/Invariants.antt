-- `rules::Marking::fresh` meets its contract: after i turns the first i places are fresh and the rest empty.
use mathlib.Core.Path.{◌≡◌}
use mathlib.Core.List.{◌++◌}
use Prim.Native.Nat.{◌-◌}
use lib.ListN.{replicate}
use Rattle.rules.specs.Counting.{places}
use Rattle.rules.specs.Holds.{most_events, empty_record}
use Rattle.rules.specs.Image.{fresh_record}
use Rattle.rules.proofs.Marking.fresh.Given as goal

abbrev pub invariant-loop-i : goal.invariant-loop-i
invariant-loop-i l = l.marking.records ≡ places l.i (λ e. fresh_record) ++ replicate (most_events - l.i) empty_record

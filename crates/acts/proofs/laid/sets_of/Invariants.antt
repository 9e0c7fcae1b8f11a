-- The events below i are laid.
use Prim.Native.Nat.{◌≤◌}
use lib.ListN.{length}
use Rattle.acts.specs.Laws.Laid.{Laid}
use Rattle.acts.proofs.laid.sets_of.Given as goal

abbrev pub invariant-loop-i : goal.invariant-loop-i
invariant-loop-i l =
    record { there : l.i ≤ length l.m.records; laid : Laid l.m l.i l.happened l.included l.pending l.bounded l.columns }

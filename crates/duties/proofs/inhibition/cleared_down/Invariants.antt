-- What is cleared stays a cleared set, turn after turn.
use Rattle.duties.specs.Inhibition.{Cleared}
use Rattle.duties.proofs.inhibition.cleared_down.Given as goal

abbrev pub invariant-loop-e : goal.invariant-loop-e
invariant-loop-e l = Cleared l.following.words l.wider

-- The loop's invariant: the relations from i on are told.
use Rattle.chain.specs.Laws.Filling.{Filled}
use Rattle.chain.proofs.stops.Visits.of.Given as goal

abbrev pub invariant-loop-i : goal.invariant-loop-i
invariant-loop-i l = Filled l.t l.m l.i l.firsts l.stops

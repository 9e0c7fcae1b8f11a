-- One pass. What is known on the way is the law's: the words stand for the marking after the events caused so far.
use Rattle.engine.specs.Laws.Trial.{Trying}
use Rattle.engine.proofs.trial.tried.Given as goal

abbrev pub invariant-loop-i : goal.invariant-loop-i
invariant-loop-i l = Trying l.table l.list l.i l.initial.marking l.marking

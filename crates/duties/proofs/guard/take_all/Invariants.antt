-- The ready events are kept up to date, and the state on the way leads to the same end as the start.
use Rattle.duties.specs.Laws.Taking.{Taking}
use Rattle.duties.proofs.guard.take_all.Given as goal

abbrev pub invariant-loop : goal.invariant-loop
invariant-loop l = Taking l.table l.initial.marking l.initial.caused l.needed l.marking l.caused l.untaken l.ready.left l.count l.counter

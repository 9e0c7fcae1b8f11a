-- One pass. What is known on the way is the law's: the words stand for the marking after the events caused so far.
use Rattle.std.proofs.Common.{arith}
use Rattle.engine.specs.Laws.Trial.{trying_more, trying_stopped, trying_ended}
use Rattle.engine.proofs.trial.tried.Goals as goal

pub returns-then-not-goes_on-clause-stands : goal.returns-then-not-goes_on-clause-stands
returns-then-not-goes_on-clause-stands c =
    trying_stopped c.args.table.now c.args.list.now c.args.marking.now c.loop-i.i c.loop-i.marking c.loop-i.invariant c.loop-i-test.true _
    c.if-not-goes_on.true c.goes_on.ensures.value

pub loop-i-preserved : goal.loop-i-preserved
loop-i-preserved c =
    let go = c.if-not-goes_on.false in
    trying_more c.args.table.now c.args.list.now c.args.marking.now c.loop-i.i c.loop-i.marking c.loop-i.invariant c.loop-i-test.true _ go
    (c.goes_on.ensures.exists go) c.goes_on.ensures.value _ c.row.ensures c.execute.new.self c.execute.ensures.stand

pub returns-clause-stands : goal.returns-clause-stands
returns-clause-stands c =
    trying_ended c.args.table.now c.args.list.now c.args.marking.now c.loop-i.i c.loop-i.marking c.loop-i.invariant (omega arith)

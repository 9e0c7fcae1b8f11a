-- What is found, with those of the events left that pass, is the whole.
use Rattle.acts.specs.Laws.Due.{chosen_if}
use Rattle.acts.specs.Laws.Each.{chosen_start, chosen_end}
use Rattle.duties.proofs.chosen.chosen.Goals as goal

pub loop-e-init : goal.loop-e-init
loop-e-init g c = λ f told x. rw (c.into_iter-e-iterator.ensures.into_iter_gives, c.of-e-items.ensures) (chosen_start f x c.args.set)

pub loop-e-preserved : goal.loop-e-preserved
loop-e-preserved g c = λ f told x.
    let t = c.in-Some.ensures.steps in
    rw t.others
    (chosen_if f c.loop-e.found c.loop-e.e-iterator.left c.in-Some.e _ x t.inside (rw (told _ _ t.small c.test.ensures) at (c.with_if-found.ensures x))
    (c.loop-e.invariant f told x))

pub returns : goal.returns
returns g c = λ f told x. chosen_end f x c.loop-e.found c.loop-e.e-iterator.left c.in-None.ensures.steps (c.loop-e.invariant f told x)

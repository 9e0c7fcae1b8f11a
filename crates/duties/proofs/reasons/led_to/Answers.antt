-- What is found, with what the events left still lead to, is the whole.
use Rattle.acts.specs.Derived.{row_of}
use Rattle.acts.specs.Laws.Each.{brought_start, brought_more, brought_end}
use Rattle.duties.proofs.reasons.led_to.Goals as goal

pub loop-e-init : goal.loop-e-init
loop-e-init c =
    λ x. rw (c.into_iter-e-iterator.ensures.into_iter_gives, c.of-e-items.ensures)
    (brought_start (λ e. row_of c.args.rows.now.words e c.args.sort) x c.args.set)

pub loop-e-preserved : goal.loop-e-preserved
loop-e-preserved c =
    let t = c.in-Some.ensures.steps in
    rw t.others
    (λ x. brought_more (λ e. row_of c.args.rows.now.words e c.args.sort) x c.loop-e.found c.loop-e.e-iterator.left c.in-Some.e t.small t.inside
    (c.loop-e.invariant x))

pub returns : goal.returns
returns c =
    λ x. brought_end (λ e. row_of c.args.rows.now.words e c.args.sort) x c.loop-e.found c.loop-e.e-iterator.left c.in-None.ensures.steps
    (c.loop-e.invariant x)

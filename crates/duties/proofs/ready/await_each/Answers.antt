-- Each place has the event already, or is to be given it.
use Rattle.std.proofs.Common.{◌∙◌, sym, get_or}
use Rattle.std.proofs.Math.ListN.{length-set}
use Rattle.duties.specs.Laws.Ready.{changed_more, changed_end}
use Rattle.duties.proofs.ready.await_each.Invariants.{given}
use Rattle.duties.proofs.ready.await_each.Goals as goal

pub loop-x-preserved : goal.loop-x-preserved
loop-x-preserved c =
    let t = c.in-Some.ensures.steps in
    rw (t.others, c.adding.ensures) (
      length-set c.loop-x.waiting c.in-Some.x (given c.args.e (get_or c.loop-x.waiting c.in-Some.x 0)) ∙ c.loop-x.invariant.0,
      λ y.
          changed_more (given c.args.e) y _ c.in-Some.x c.loop-x.waiting t.inside (rw c.loop-x.invariant.0 t.small) ∙ c.loop-x.invariant.1 y,
    )

pub returns-clause-by_index : goal.returns-clause-by_index
returns-clause-by_index c = λ x b. sym (changed_end (given c.args.e) x _ c.loop-x.waiting c.in-None.ensures.steps) ∙ c.loop-x.invariant.1 x

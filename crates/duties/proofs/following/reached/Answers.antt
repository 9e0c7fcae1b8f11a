-- What was found is closed but for the events still to be opened; each turn opens one.
use Rattle.duties.specs.Laws.Reached.{opening_start, opening_more, opening_less, reaching_start, reaching_end, reaching_more}
use Rattle.duties.proofs.following.reached.Goals as goal

pub loop-e-init : goal.loop-e-init
loop-e-init g c = rw c.of-unopened.ensures (opening_start c.args.set, λ word told. reaching_start word c.args.set)

pub loop-e-smaller : goal.loop-e-smaller
loop-e-smaller g c = opening_less c.loop-e.invariant.0 c.in-Some.ensures.steps c.leads.result _ c.without-more.ensures

pub loop-e-preserved : goal.loop-e-preserved
loop-e-preserved g c =
    let t = c.in-Some.ensures.steps in (
      opening_more c.loop-e.invariant.0 t c.leads.result _ c.without-more.ensures,
      λ word told.
          reaching_more c.loop-e.invariant.0 t c.leads.result _ c.without-more.ensures (told _ _ t.small c.leads.ensures) (c.loop-e.invariant.1 word told),
    )

pub returns : goal.returns
returns g c = λ word told. reaching_end (c.loop-e.invariant.1 word told) c.in_default.ensures.steps

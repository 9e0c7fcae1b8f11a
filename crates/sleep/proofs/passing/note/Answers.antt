-- Event by event; a place that the list does not have is passed over.
use mathlib.Core.Path.{◌∙◌}
use Rattle.sleep.specs.Laws.Passing.{noted_none, taken_more, taken_past}
use Rattle.sleep.proofs.passing.note.Goals as goal
use Rattle.sleep.proofs.passing.note.Goals.{then-at-i, else-at-i}

pub loop-i-init : goal.loop-i-init
loop-i-init c = let a = c.args in noted_none a.tick a.caused.now a.at a.list.now

pub loop-i-preserved : goal.loop-i-preserved
loop-i-preserved c =
    let a = c.args in
    elim c.if-at-i.branch [
      | then-at-i w ↦ w.list-is ∙ taken_more a.tick a.caused.now a.at a.list.now _ c.loop-i-test.true c.loop-i.invariant w.place.ensures
      | else-at-i w ↦ w.list-is ∙ taken_past a.tick a.caused.now a.at a.list.now _ c.loop-i-test.true c.loop-i.invariant w.if-at-i.false
    ]

-- Turn after turn, until all ticks have passed.
use mathlib.Core.Path.{◌∙◌}
use Rattle.sleep.proofs.passing.pass.Goals as goal

pub loop-marking-preserved : goal.loop-marking-preserved
loop-marking-preserved c =
    let inv = c.loop-marking.invariant in
    let after = c.turn-count.ensures in
    (after.on.1, after.on.2, after.kept ∙ inv.2, λ t tail m before w now. after.passed t tail m before w (inv.3 t tail m before w now))

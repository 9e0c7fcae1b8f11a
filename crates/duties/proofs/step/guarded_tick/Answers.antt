-- What is needed is taken, and one tick passes.
use Rattle.std.proofs.Common.{refl}
use Rattle.rules.specs.Guard.{guarded}
use Rattle.duties.proofs.step.guarded_tick.Goals as goal

pub returns-clause-stand : goal.returns-clause-stand
unfolding guarded
returns-clause-stand c = λ t tail m of sure stands.
    c.pass_tick.ensures.stand _ tail _ (c.guarded.ensures.taken t tail m of refl stands)

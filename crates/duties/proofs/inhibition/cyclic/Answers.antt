-- What is reached from its inhibitors is what it waits for.
use mathlib.Core.Path.{◌∙◌, ap}
use Prim.Native.Nat.{ℕ}
use Rattle.rules.specs.EventSet.{has}
use Rattle.duties.specs.Laws.Followed.{awaited_reached}
use Rattle.duties.proofs.inhibition.cyclic.Goals as goal

pub returns : goal.returns
returns c = λ t of b.
    c.has_event.ensures
    ∙ ap (λ (w : ℕ). has w c.args.e)
    (awaited_reached t of.good c.args.following.now.words of.followed c.args.e c.reached.result c.requires c.reached.ensures)

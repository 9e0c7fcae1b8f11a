-- What is reached from the busy events by what is followed.
use mathlib.Core.Path.{◌∙◌}
use Rattle.rules.proofs.Laws.Bitwise.{has_and}
use Rattle.duties.specs.Laws.Followed.{closure_reached}
use Rattle.duties.specs.Laws.Reasons.{busy_word}
use Rattle.duties.specs.Laws.Sets.{owed_told}
use Rattle.duties.proofs.following.Following.closure.Goals as goal

pub returns : goal.returns
returns c =
    λ t tail m of q stands.
    closure_reached t of.good _ of.followed m _ _
    (busy_word t of.good m _ (λ x. c.first.ensures x ∙ rw q) _ _
    (λ x b. has_and _ _ x ∙ owed_told _ tail _ c.args.marking.now.sets c.args.marking.now.columns m stands x (rw (← q) b)) of.answers)
    c.reached.ensures

-- With no inhibitor uncleared, the event is cleared above them all.
use mathlib.Core.Path.{subst, sym}
use Rattle.acts.specs.Laws.Members.{without_none}
use Rattle.duties.specs.Inhibition.{Cleared}
use Rattle.duties.specs.Laws.Cleared.{cleared_with}
use Rattle.duties.proofs.inhibition.clearing.Goals as goal

pub returns-then-without-eq0 : goal.returns-then-without-eq0
returns-then-without-eq0 c =
    subst (Cleared c.args.following.now.words) (sym c.adding.ensures)
    (cleared_with c.args.following.now.words c.requires.cleared c.args.e
    (λ x i. without_none _ _ _ c.without.ensures c.if-without-eq0.true x i))

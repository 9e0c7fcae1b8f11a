-- The lowest event of the set is the lowest place of the test.
use mathlib.Core.Path.{◌∙◌, sym}
use Rattle.duties.specs.Laws.Reasons.{place_none, place_at, reason_none, reason_at}
use Rattle.duties.proofs.reasons.with_event.Goals as goal

pub returns-in-Some : goal.returns-in-Some
returns-in-Some c = λ t n f made.
    sym (reason_at _ n c.in-Some.e f _ (place_at n c.of.result.left f (c.of.ensures ∙ made) c.in-Some.ensures.steps))

pub returns-in-None : goal.returns-in-None
returns-in-None c = λ t n f made. sym (reason_none _ n f _ (place_none n c.args.set f made (sym c.of.ensures ∙ c.in-None.ensures.steps)))

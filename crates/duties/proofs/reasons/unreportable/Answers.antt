-- The excluded, barred and held events, without the controllable ones.
use mathlib.Core.Path.{◌∙◌, ap}
use mathlib.Core.Bool.{◌&&◌, not}
use lib.Dec.{ltb}
use Rattle.rules.specs.EventSet.{has}
use Rattle.acts.specs.declared.derived.Head.{Head}
use Rattle.duties.specs.Laws.Reasons.{unreportable_word}
use Rattle.duties.specs.Laws.Sets.{included_told}
use Rattle.duties.proofs.reasons.unreportable.Goals as goal

pub returns : goal.returns
returns c = λ t tail m of stands.
    let marking = c.args.marking.now in
    unreportable_word t of.good m _ (λ x. c.first-every.ensures x ∙ ap (λ (h : Head). ltb x h.events) of.headed) _ of.derived _ _ _ _ _
    (λ x b. included_told _ tail _ marking.sets marking.columns m stands x b) c.without-excluded.ensures c.led_to-barred.ensures
    (λ x. c.without-uncontrollable.ensures x ∙ ap (λ (h : Head). has c.first-every.result x && not (has h.controllable x)) of.headed) c.held.ensures

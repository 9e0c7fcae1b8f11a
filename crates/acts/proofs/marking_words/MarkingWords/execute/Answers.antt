-- First the event is cleared, then the sets by their members, then the walk.
use mathlib.Core.Path.{◌∙◌}
use Rattle.rules.proofs.Laws.Bitwise.{has_one}
use Rattle.rules.proofs.Laws.Time.{one_shifted}
use Rattle.acts.specs.Laws.Effected.{effect_stands}
use Rattle.acts.proofs.marking_words.MarkingWords.execute.Goals as goal

pub returns-clause-stand : goal.returns-clause-stand
returns-clause-stand c t tail m row exists firm stands =
    let itself = one_shifted _ c.requires in
    effect_stands t row.good _ _ _ _ row.own exists tail _ _ _ m stands _ _ _ _ _ _ _ _ _ _ firm
    (λ x. c.without-pending.ensures x ∙ rw (itself, has_one)) (λ x. c.without-bounded.ensures x ∙ rw (itself, has_one))
    c.adding-happened.ensures c.included_after-included.ensures c.pending_after-asked.ensures
    c.kept_dates-kept.ensures c.bounded_after-dated.ensures c.counted.ensures (c.answered.ensures t _ row)

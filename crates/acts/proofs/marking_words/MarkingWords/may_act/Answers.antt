-- Excluded, held back, without a condition with a time to an included event, or by the walk.
use mathlib.Core.Path.{◌≡◌, ◌∙◌, ap, sym}
use mathlib.Core.Bool.{true, false, not}
use lib.ListN.{get_or}
use Rattle.rules.specs.EventSet.{has}
use Rattle.rules.proofs.Laws.Tests.{clash}
use Rattle.acts.specs.Acting.{held_back}
use Rattle.acts.specs.Laws.Blocking.{flipped}
use Rattle.acts.specs.Laws.Acting.{enabled_out, enabled_held, enabled_unless, enabled_free}
use Rattle.acts.proofs.marking_words.MarkingWords.may_act.Goals as goal
use Rattle.acts.proofs.marking_words.MarkingWords.may_act.Goals.{then-has_event, else-has_event}

pub returns-then-word-included-eq0 : goal.returns-then-word-included-eq0
returns-then-word-included-eq0 c t tail m row exists stands =
    let sets = c.args.self.now.sets in
    let free : (has (get_or sets 1 0) c.args.e ≡ true) × (held_back c.args.row.words.now c.args.row.at sets ≡ false) = elim c.if-has_event.branch [
      | then-has_event w ↦ (sym c.has_event.ensures ∙ w.if-has_event.true, sym w.holds_back.ensures ∙ flipped _ _ w.value-is ∙ ap not c.if-not-holds_back.true)
      | else-has_event w ↦ absurd (clash c.if-not-holds_back.true (w.value-is ∙ w.if-has_event.false))
    ] in
    rw c.if-word-included-eq0.true (sym (enabled_free t row.good _ _ _ _ row.own _ _ _ tail m exists stands free.0 free.1 (rw c.word.ensures at c.if-word-included-eq0.true)))

pub returns-else-word-included-eq0 : goal.returns-else-word-included-eq0
returns-else-word-included-eq0 c t tail m row exists stands =
    let sets = c.args.self.now.sets in
    let free : (has (get_or sets 1 0) c.args.e ≡ true) × (held_back c.args.row.words.now c.args.row.at sets ≡ false) = elim c.if-has_event.branch [
      | then-has_event w ↦ (sym c.has_event.ensures ∙ w.if-has_event.true, sym w.holds_back.ensures ∙ flipped _ _ w.value-is ∙ ap not c.if-not-holds_back.true)
      | else-has_event w ↦ absurd (clash c.if-not-holds_back.true (w.value-is ∙ w.if-has_event.false))
    ] in
    ap not (c.waits.ensures t _ row)
    ∙ sym (enabled_unless t row.good _ _ _ _ row.own _ _ _ tail m exists stands free.0 free.1)

pub returns-else-not-holds_back : goal.returns-else-not-holds_back
returns-else-not-holds_back c t tail m row exists stands = rw c.if-not-holds_back.false (elim c.if-has_event.branch [
  | then-has_event w ↦
      sym (enabled_held t row.good _ _ _ _ row.own _ _ _ tail m exists stands
      (sym w.holds_back.ensures ∙ flipped _ _ w.value-is ∙ ap not c.if-not-holds_back.false))
  | else-has_event w ↦ sym (enabled_out t row.good _ _ _ _ row.own _ _ _ tail m exists stands (sym c.has_event.ensures ∙ w.if-has_event.false))
])

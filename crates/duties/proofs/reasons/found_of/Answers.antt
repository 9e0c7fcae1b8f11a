-- Each reason in turn, where none before it applies.
use Rattle.std.proofs.Common.{◌≡◌, ◌∙◌, Err, rules, ap, sym}
use Rattle.duties.specs.Reasons.{verdict_by}
use Rattle.duties.specs.Laws.Reasons.{two_none, two_at, three_none, three_at, four_none, four_at, five_none, five_at, six_is}
use Rattle.duties.proofs.reasons.found_of.Goals as goal

pub returns-in_err-with_event : goal.returns-in_err-with_event
returns-in_err-with_event c = λ t of following fits.
    let is : c.from_residual.result ≡ Err c.in_err-with_event.field-0.0 = search rules in
    ap (verdict_by t) is ∙ two_at of fits _ c.without.ensures c.in_err-with_event.field-0.0 c.in_err-with_event.ensures

pub returns-in_err-with_relation : goal.returns-in_err-with_relation
returns-in_err-with_relation c = λ t of following fits.
    let is : c.from_residual-in_err-with_relation.result ≡ Err c.in_err-with_relation.field-0.0 = search rules in
    ap (verdict_by t) is ∙ three_at of fits _ c.led_to.ensures c.in_err-with_relation.field-0.0 c.in_err-with_relation.ensures
    ∙ sym (two_none of fits _ c.without.ensures c.in_ok-with_event.ensures)

pub returns-in-Some : goal.returns-in-Some
returns-in-Some c = λ t of following fits.
    four_at of fits _ (c.in-Some.ensures t following fits)
    ∙ sym (two_none of fits _ c.without.ensures c.in_ok-with_event.ensures
    ∙ three_none of fits _ c.led_to.ensures c.in_ok-with_relation.ensures)

pub returns-in_err-with_relation-2 : goal.returns-in_err-with_relation-2
returns-in_err-with_relation-2 c = λ t of following fits.
    let is : c.from_residual-in_err-with_relation-2.result ≡ Err c.in_err-with_relation-2.field-0.0 = search rules in
    ap (verdict_by t) is
    ∙ five_at of fits _ _ _ c.led_to-milestones.ensures c.led_to-2.ensures c.led_to-3.ensures c.in_err-with_relation-2.field-0.0 c.in_err-with_relation-2.ensures
    ∙ sym (two_none of fits _ c.without.ensures c.in_ok-with_event.ensures
    ∙ three_none of fits _ c.led_to.ensures c.in_ok-with_relation.ensures ∙ four_none of fits (c.in_default.ensures t following fits))

pub returns : goal.returns
returns c = λ t of following fits.
    six_is of fits _ c.led_to-4.ensures _ c.with_relation-3.ensures
    ∙ sym (two_none of fits _ c.without.ensures c.in_ok-with_event.ensures
    ∙ three_none of fits _ c.led_to.ensures c.in_ok-with_relation.ensures ∙ four_none of fits (c.in_default.ensures t following fits)
    ∙ five_none of fits _ _ _ c.led_to-milestones.ensures c.led_to-2.ensures c.led_to-3.ensures c.in_ok-with_relation-2.ensures)

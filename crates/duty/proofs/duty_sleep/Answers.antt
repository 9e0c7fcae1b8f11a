-- What is slept through of what was read; reason and place are told where the check was made.
use Rattle.std.specs.Prelude.{◌≡◌}
use Rattle.std.proofs.Common.{◌∙◌, rules, length}
use Rattle.rules.specs.Numbers.{◌else◌}
use Rattle.rules.specs.Sleep.{sleep_answer}
use Rattle.rules.specs.Images.{images_number, on}
use Rattle.duty.specs.Laws.Kept.{sleep_told}
use Rattle.duty.specs.Laws.Answered.{listed}
use Rattle.duty.specs.Laws.Checked.{slept_left, slept_fills}
use Rattle.duty.proofs.duty_sleep.Goals as goal

pub put-requires : goal.put-requires
put-requires c =
    let a = c.args in
    slept_fills a.table.now a.marking.now a.ticks (length a.list.now) _ c.on_lent-answer.ensures.unread (λ z. search rules) _ c.in-Ok.is

pub returns-clause-list : goal.returns-clause-list
returns-clause-list c =
    let a = c.args in
    let number : c.tell.result ≡ (images_number a.table.now a.marking.now else (on sleep_answer a.table.now a.marking.now a.ticks (length a.list.now)).number)
    = search rules in
    listed _ _ _ number (sleep_told _ _ a.ticks a.list.now) (λ z. search rules) c.on_lent-answer.ensures.left

pub returns-clause-reason : goal.returns-clause-reason
returns-clause-reason c =
    let a = c.args in
    c.tell.ensures.reason
    ∙ (slept_left a.table.now a.marking.now a.ticks (length a.list.now) _ c.on_lent-answer.ensures.unread (λ z. search rules)
    c.tell.ensures.number a.reason.now a.place.now).0

pub returns-clause-place : goal.returns-clause-place
returns-clause-place c =
    let a = c.args in
    c.tell.ensures.place
    ∙ (slept_left a.table.now a.marking.now a.ticks (length a.list.now) _ c.on_lent-answer.ensures.unread (λ z. search rules)
    c.tell.ensures.number a.reason.now a.place.now).1

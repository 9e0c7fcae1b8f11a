-- Reason and place are told where the images are read.
use Rattle.std.proofs.Common.{rules, ◌∙◌}
use Rattle.rules.specs.Check.{told_check}
use Rattle.rules.specs.Images.{on}
use Rattle.duty.specs.Laws.Images.{read_judged}
use Rattle.duty.specs.Laws.Checked.{told_behind, check_tells}
use Rattle.duty.proofs.duty_check.Goals as goal

pub returns-clause-reason : goal.returns-clause-reason
returns-clause-reason c =
    let said = on told_check c.args.table.now c.args.marking.now in
    c.tell.ensures.reason
    ∙ (told_behind _ _ c.on-answer.ensures.unread said.reason said.place
    (λ z. check_tells _ _ (read_judged _ _ z) _ (search rules) (search rules)) c.args.reason.now c.args.place.now).0

pub returns-clause-place : goal.returns-clause-place
returns-clause-place c =
    let said = on told_check c.args.table.now c.args.marking.now in
    c.tell.ensures.place
    ∙ (told_behind _ _ c.on-answer.ensures.unread said.reason said.place
    (λ z. check_tells _ _ (read_judged _ _ z) _ (search rules) (search rules)) c.args.reason.now c.args.place.now).1

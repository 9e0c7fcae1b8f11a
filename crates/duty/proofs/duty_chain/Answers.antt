-- The list is the rule's, where the images are read.
use Rattle.std.proofs.Common.{◌≡◌, rules, length}
use Rattle.rules.specs.Numbers.{◌else◌}
use Rattle.rules.specs.Chain.{chain_answer}
use Rattle.rules.specs.Images.{images_number, on}
use Rattle.duty.specs.Laws.Kept.{chain_told}
use Rattle.duty.specs.Laws.Answered.{listed}
use Rattle.duty.proofs.duty_chain.Goals as goal

pub returns-clause-list : goal.returns-clause-list
returns-clause-list c =
    let a = c.args in
    let number : c.tell.result ≡ (images_number a.table.now a.marking.now else (on chain_answer a.table.now a.marking.now a.event (length a.list.now)).number)
    = search rules in
    listed _ _ _ number (chain_told _ _ a.event a.list.now) (λ z. search rules) c.on_lent-answer.ensures.left

-- The new marking is put back.
use Rattle.std.proofs.Common.{rules}
use Rattle.rules.specs.Happen.{happen}
use Rattle.duty.specs.Laws.Kept.{happen_judged}
use Rattle.duty.specs.Laws.Answered.{acted}
use Rattle.duty.proofs.duty_happen.Goals as goal

pub returns : goal.returns
returns c =
    let put =
    acted _ _ (λ t m. happen t m c.args.event) (λ t m h. happen_judged t m h c.args.event) _ c.on-answer.ensures.unread (λ z. search rules) c.put_back.ensures.number c.put_back.ensures.bytes in
    record { number = put.0; marking = put.1 }

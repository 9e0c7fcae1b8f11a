-- The new marking is put back.
use Rattle.std.proofs.Common.{rules}
use Rattle.rules.specs.Time.{plain_tick}
use Rattle.duty.specs.Laws.Kept.{plain_tick_judged}
use Rattle.duty.specs.Laws.Answered.{acted}
use Rattle.duty.proofs.duty_plain_tick.Goals as goal

pub returns : goal.returns
returns c =
    let put =
    acted _ _ (plain_tick) (plain_tick_judged) _ c.on-answer.ensures.unread (λ z. search rules) c.put_back.ensures.number c.put_back.ensures.bytes in
    record { number = put.0; marking = put.1 }

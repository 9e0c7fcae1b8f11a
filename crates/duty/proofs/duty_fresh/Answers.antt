-- A fresh marking is written wherever it has room.
use Rattle.duty.specs.Laws.Kept.{fresh_put}
use Rattle.duty.proofs.duty_fresh.Goals as goal

pub returns : goal.returns
returns c =
    let put = fresh_put c.args.events _ c.fresh.ensures c.args.marking.now _ _ c.put_back.ensures.number c.put_back.ensures.bytes in
    record { number = put.0; marking = put.1 }

-- The record's fields, where the event exists and there is room.
use Rattle.std.proofs.Common.{◌∙◌}
use Rattle.rules.specs.Images.{images_number, fields_number, fields_told}
use Rattle.rules.proofs.Laws.Numbers.{else_joined}
use Rattle.duty.specs.Laws.Answered.{placed}
use Rattle.duty.proofs.duty_record.Goals as goal

pub returns : goal.returns
unfolding fields_told fields_number
returns c =
    let number = c.tell.ensures.number ∙ rw c.record.ensures.number (else_joined (images_number c.args.table.now c.args.marking.now) _ _) in record {
      number = number;
      fields = c.tell.ensures.places ∙ placed c.record.result _ c.record.ensures.fields _ c.tell.ensures.number _ _ ∙ rw number;
    }

-- The relation's numbers, where it exists and there is room.
use Rattle.std.proofs.Common.{◌∙◌}
use Rattle.rules.specs.Image.{read_table}
use Rattle.rules.specs.Building.{relation_told_number, relation_told}
use Rattle.rules.proofs.Laws.Numbers.{else_joined}
use Rattle.duty.specs.Laws.Answered.{placed}
use Rattle.duty.proofs.duty_relation.Goals as goal

pub returns : goal.returns
unfolding relation_told relation_told_number
returns c =
    let number = c.tell.ensures.number ∙ rw c.relation.ensures.number (else_joined ((read_table c.args.table.now).number) _ _) in record {
      number = number;
      numbers = c.tell.ensures.places ∙ placed c.relation.result _ c.relation.ensures.numbers _ c.tell.ensures.number _ _ ∙ rw number;
    }

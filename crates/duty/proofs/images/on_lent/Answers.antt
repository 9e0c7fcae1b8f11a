-- The table's refusal, else the marking's; else the rule is asked of what is read, and of the list.
use Rattle.std.proofs.Common.{arith}
use Rattle.std.proofs.lemmas.Grind.{common_steps}
use Rattle.rules.specs.Images.{table_of, marking_of, images_number}
use Rattle.duty.proofs.images.on_lent.Goals as goal

pub returns-in_err-t-clause-unread : goal.returns-in_err-t-clause-unread
unfolding images_number
returns-in_err-t-clause-unread g c = grind (arith, common_steps)

pub returns-in_err-t-clause-ruled : goal.returns-in_err-t-clause-ruled
unfolding images_number
returns-in_err-t-clause-ruled g c = grind (arith, common_steps)

pub returns-in_err-m-clause-unread : goal.returns-in_err-m-clause-unread
unfolding images_number table_of
returns-in_err-m-clause-unread g c = grind (arith, common_steps)

pub returns-in_err-m-clause-ruled : goal.returns-in_err-m-clause-ruled
unfolding images_number table_of
returns-in_err-m-clause-ruled g c = grind (arith, common_steps)

pub returns-clause-unread : goal.returns-clause-unread
unfolding images_number table_of
returns-clause-unread g c = grind (arith, common_steps)

pub returns-clause-ruled : goal.returns-clause-ruled
unfolding table_of marking_of
returns-clause-ruled g c = grind (arith, common_steps)

pub returns-clause-left : goal.returns-clause-left
unfolding images_number table_of
returns-clause-left g c = grind (arith, common_steps)

-- Of a table that was read.
use Rattle.std.proofs.Common.{arith}
use Rattle.std.proofs.lemmas.Grind.{common_steps}
use Rattle.rules.specs.Images.{table_of}
use Rattle.duty.proofs.asking.firm.Goals as goal

pub returns-clause-firm : goal.returns-clause-firm
unfolding table_of
returns-clause-firm c = grind (arith, common_steps)

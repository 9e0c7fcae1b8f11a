-- The tests of the definition.
use Rattle.std.proofs.Common.{arith}
use Rattle.std.proofs.lemmas.Grind.{common_steps}
use Rattle.rules.specs.Station.{heard_number}
use Rattle.engine.proofs.hearing.granted.Goals as goal

pub returns-then-kept-lt-LONGEST_INPUT : goal.returns-then-kept-lt-LONGEST_INPUT
unfolding heard_number
returns-then-kept-lt-LONGEST_INPUT c = grind (arith, common_steps)

pub returns-else-kept-lt-LONGEST_INPUT : goal.returns-else-kept-lt-LONGEST_INPUT
unfolding heard_number
returns-else-kept-lt-LONGEST_INPUT c = grind (arith, common_steps)

-- Two tests that refuse alike.
use Rattle.std.proofs.Common.{arith}
use Rattle.std.proofs.lemmas.Grind.{common_steps}
use Rattle.rules.specs.Trace.{trace_number}
use Rattle.engine.proofs.runner.granted.Goals as goal
use Rattle.engine.proofs.runner.granted.Goals.{then-steps-gt-MOST, else-steps-gt-MOST}

pub returns-then-room-steps : goal.returns-then-room-steps
unfolding trace_number
returns-then-room-steps c = grind (arith, common_steps)

pub returns-else-room-steps : goal.returns-else-room-steps
unfolding trace_number
returns-else-room-steps c = grind (arith, common_steps)

-- Each turn that goes on writes something. Assumes nothing.
use Rattle.std.proofs.Common.{length}
use Rattle.streams.proofs.write_all.Given as goal

abbrev pub decreases-loop-rest : goal.decreases-loop-rest
decreases-loop-rest g l = length l.rest

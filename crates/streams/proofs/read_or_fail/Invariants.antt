-- The count stays within the space, and each turn that goes on reads something. Assumes nothing.
use Rattle.std.proofs.Common.{◌-◌, ◌≤◌, length}
use Rattle.streams.proofs.read_or_fail.Given as goal

abbrev pub invariant-loop-count : goal.invariant-loop-count
invariant-loop-count g l = l.count ≤ length l.space

abbrev pub decreases-loop-count : goal.decreases-loop-count
decreases-loop-count g l = length l.space - l.count

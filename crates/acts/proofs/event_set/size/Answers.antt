-- `size` is the machine's count of ones, which is the number of members.
use Rattle.rules.proofs.Laws.Bitwise.{size_is_ones}
use Rattle.acts.proofs.event_set.size.Goals as goal

pub returns : goal.returns
returns c = size_is_ones c.args.set c.ranges.set.fits

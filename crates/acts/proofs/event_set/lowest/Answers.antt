-- `lowest` is the machine's count of trailing zeros, which ends at the lowest member.
use Rattle.rules.specs.EventSet.{lowest_of}
use Rattle.rules.proofs.Laws.Bitwise.{lowest_is_trailing}
use Rattle.acts.proofs.event_set.lowest.Goals as goal

pub returns : goal.returns
unfolding lowest_of
returns c = lowest_is_trailing 64 c.args.set

-- The members of one word and the other turned over.
use Rattle.acts.specs.Laws.Members.{has_without}
use Rattle.acts.proofs.event_set.without.Goals as goal

pub returns : goal.returns
returns c = λ x. has_without c.args.set c.args.other x c.ranges.set.fits c.ranges.other.fits

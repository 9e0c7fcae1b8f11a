-- Every event, shifted down to the first n.
use Rattle.acts.specs.Laws.Members.{has_first}
use Rattle.acts.proofs.event_set.first.Goals as goal

pub returns : goal.returns
returns c = λ x. has_first c.args.n x c.requires.1

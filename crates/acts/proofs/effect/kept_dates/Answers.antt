-- By the members of the words.
use Rattle.rules.proofs.Laws.Bitwise.{has_and}
use Rattle.acts.proofs.effect.kept_dates.Goals as goal

pub returns : goal.returns
returns c x = rw (has_and, has_and)

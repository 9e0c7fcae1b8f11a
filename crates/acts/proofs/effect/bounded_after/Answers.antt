-- By the members of the words.
use Rattle.rules.proofs.Laws.Bitwise.{has_or}
use Rattle.acts.proofs.effect.bounded_after.Goals as goal

pub returns : goal.returns
returns c x = rw (has_or, has_or, c.without.ensures x, has_or, c.word-soon.ensures, c.word.ensures)

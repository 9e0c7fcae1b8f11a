-- By the members of the words.
use Rattle.rules.proofs.Laws.Bitwise.{has_and}
use Rattle.acts.proofs.marking_words.MarkingWords.bounded_pending.Goals as goal

pub returns : goal.returns
returns c x = rw (has_and, has_and, has_and, c.first.ensures x)

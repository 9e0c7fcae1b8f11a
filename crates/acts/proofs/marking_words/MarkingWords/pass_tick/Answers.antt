-- The clock alone moves on.
use Rattle.acts.specs.Laws.Stands.{tick_stands}
use Rattle.acts.proofs.marking_words.MarkingWords.pass_tick.Goals as goal

pub returns-clause-stand : goal.returns-clause-stand
returns-clause-stand c n tail m = tick_stands n tail _ _ _ m

-- The first e places are read, the rest are as they were.
use mathlib.Core.Path.{◌≡◌}
use mathlib.Core.List.{◌++◌}
use lib.ListN.{drop}
use Rattle.rules.specs.Counting.{places}
use Rattle.acts.specs.Stands.{record_in}
use Rattle.acts.proofs.marking_words.MarkingWords.give.Given as goal

abbrev pub invariant-loop-e : goal.invariant-loop-e
invariant-loop-e l = l.records ≡ places l.e (record_in l.self.clock l.self.sets l.self.columns) ++ drop l.e l.initial.records

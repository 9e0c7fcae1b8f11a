-- The nearest date so far, of those that were gone through.
use Prim.Native.Nat.{◌-◌}
use Rattle.acts.specs.Stands.{ticks_at}
use Rattle.acts.specs.Laws.Quiet.{Nearest}
use Rattle.acts.proofs.marking_words.MarkingWords.quiet.Given as goal

abbrev pub invariant-loop-e : goal.invariant-loop-e
invariant-loop-e l = Nearest (ticks_at l.self.clock l.self.columns) l.most l.initial.e-iterator.left l.e-iterator.left (l.nearest - l.self.clock)

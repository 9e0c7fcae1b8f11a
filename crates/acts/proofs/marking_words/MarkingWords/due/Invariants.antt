-- What was found, with what is left, is what the set has.
use mathlib.Core.Path.{◌≡◌}
use mathlib.Core.Bool.{◌&&◌, ◌||◌}
use Prim.Native.Nat.{ℕ}
use Rattle.rules.specs.EventSet.{has}
use Rattle.acts.specs.Stands.{may_be_due}
use Rattle.acts.specs.Laws.Due.{is_over}
use Rattle.acts.proofs.marking_words.MarkingWords.due.Given as goal

abbrev pub invariant-loop-e : goal.invariant-loop-e
invariant-loop-e l =
    (x : ℕ) → (has l.found x || (has l.e-iterator.left x && is_over l.self.clock l.self.columns x)) ≡ (may_be_due l.self.sets l.n x && is_over l.self.clock l.self.columns x)

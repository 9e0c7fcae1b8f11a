-- The rows of the first i relations.
use mathlib.Core.Path.{◌≡◌}
use Rattle.acts.specs.Derived.{head_of, Derived, Unlinked}
use Rattle.acts.proofs.table_words.Rows.fill.Given as goal

abbrev pub invariant-loop-i : goal.invariant-loop-i
invariant-loop-i l =
    record { headed : l.self.head ≡ head_of l.t; derived : Derived l.t l.i l.self.words; unlinked : Unlinked l.self.words }

-- The words of every event, of the first i relations.
use mathlib.Core.Path.{◌≡◌}
use Rattle.acts.specs.Derived.{head_of}
use Rattle.acts.specs.Laws.Linked.{Owned}
use Rattle.acts.proofs.table_words.TableWords.fill.Given as goal

abbrev pub invariant-loop-i : goal.invariant-loop-i
invariant-loop-i l = record { headed : l.self.rows.head ≡ head_of l.t; owned : Owned l.t l.i l.self.rows.words l.self.links }

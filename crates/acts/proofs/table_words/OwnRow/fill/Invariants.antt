-- The words of one event, of the first i relations.
use mathlib.Core.Path.{◌≡◌}
use lib.ListN.{length}
use Rattle.acts.specs.Derived.{Own}
use Rattle.acts.proofs.table_words.OwnRow.fill.Given as goal

abbrev pub invariant-loop-i : goal.invariant-loop-i
invariant-loop-i l =
    record { own : Own l.t l.i l.e l.self.words 0 l.self.links; ten : length l.self.words ≡ 10; all_links : length l.self.links ≡ 256 }

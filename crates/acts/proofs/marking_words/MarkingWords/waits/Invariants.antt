-- None of the conditions that were met waits, of whatever table the words are.
use mathlib.Core.Path.{◌≡◌}
use Prim.Native.Nat.{ℕ}
use lib.ListN.{get_or}
use Rattle.rules.specs.declared.Table.{Table}
use Rattle.acts.specs.Words.{RowOf}
use Rattle.acts.specs.Laws.Waiting.{Waiting}
use Rattle.acts.proofs.marking_words.MarkingWords.waits.Given as goal

abbrev pub invariant-loop-link : goal.invariant-loop-link
invariant-loop-link l =
    record {
      same : l.link-iterator.links ≡ l.fn.row.links;
      waiting : (t : Table) (e : ℕ) → RowOf t e l.fn.row → Waiting t e l.self.clock (get_or l.self.sets 1 0) l.self.columns l.link-iterator.next;
    }

-- What was met stands, of whatever table the words are.
use mathlib.Core.Path.{◌≡◌}
use Prim.Native.Nat.{ℕ}
use lib.ListN.{length}
use Rattle.rules.specs.declared.Table.{Table}
use Rattle.acts.specs.Words.{RowOf}
use Rattle.acts.specs.Laws.Answering.{Answering}
use Rattle.acts.proofs.effect.answered.Given as goal

abbrev pub invariant-loop-link : goal.invariant-loop-link
invariant-loop-link l =
    record {
      same : l.link-iterator.links ≡ l.fn.row.links;
      answering : (t : Table) (e : ℕ) → RowOf t e l.fn.row → length l.initial.columns ≡ 192
          → Answering t e l.clock l.kept l.initial.columns l.link-iterator.next l.dated l.columns;
    }

-- What is asked of a table and a marking as words, each whole.
use Rattle.std.specs.Prelude.{◌≡◌, List, ℕ}
use Rattle.rules.specs.declared.Record.{Record}
use Rattle.rules.specs.declared.Marking.{Marking}
use Rattle.rules.specs.declared.Table.{Table}
use Rattle.rules.specs.Shapes.Good.{GoodTable}
use Rattle.acts.specs.declared.table_words.Row.{Row}
use Rattle.acts.specs.declared.table_words.Rows.{Rows}
use Rattle.acts.specs.declared.table_words.TableWords.{TableWords}
use Rattle.acts.specs.declared.marking_words.MarkingWords.{MarkingWords}
use Rattle.acts.specs.Derived.{head_of, Own, Derived, Linked}
use Rattle.acts.specs.Stands.{Stands}

-- the rows, and what else is said, are those of a judged table
pub record RowsOf (t : Table) (rows : Rows) : Type 0 where
  pub good : GoodTable t
  pub derived : Derived t t.count rows.words
  pub headed : rows.head ≡ head_of t

-- the rows and the links are those of a judged table
pub record WordsOf (t : Table) (table : TableWords) : Type 0 where
  pub rows : RowsOf t table.rows
  pub linked : Linked t t.count table.rows.words table.links

-- the row is that of event e in a judged table
pub record RowOf (t : Table) (e : ℕ) (row : Row) : Type 0 where
  pub good : GoodTable t
  pub own : Own t t.count e row.words.now row.at row.links.now

-- the words of n events stand for a marking
abbrev pub StandFor : ℕ → List Record → MarkingWords → Marking → Type 0
StandFor n tail words m = Stands n tail words.clock words.sets words.columns m

-- What is asked for exists where it is not refused; a table that was read, and its record of an event. Assumes nothing.
use Rattle.std.specs.Prelude.{◌≡◌, List, ℕ, ◌<◌, ◌+◌, Ok, length, get_or}
use Rattle.std.proofs.Common.{ltb-true, ap, sym, arith}
use Rattle.std.proofs.Math.Bool.{not}
use Rattle.std.proofs.Math.Dec.{ltb}
use Rattle.std.proofs.lemmas.Bool.{not-false}
use Rattle.rules.specs.declared.Table.{Table}
use Rattle.rules.specs.Answers.{TableAnswer}
use Rattle.rules.specs.Numbers.{◌if◌}
use Rattle.rules.specs.Results.{as_table}
use Rattle.rules.specs.Image.{read_table, class_byte}
use Rattle.rules.specs.Images.{table_of, images_number}
use Rattle.rules.specs.Shapes.Good.{GoodTable}
use Rattle.rules.proofs.Laws.Numbers.{if_done}
use Rattle.rules.proofs.Laws.Judge.{good, good_table}
use Rattle.image.specs.Theorems.{read_table_accepted, read_table_exact, class_is_byte}
use Rattle.duty.specs.Laws.Images.{read_judged}

-- of so many one that exists
pub existing : (there which : ℕ) → (8 if not (ltb which there)) ≡ 0 → which < there
existing there which h = ltb-true which there (not-false _ (if_done 7 _ h))

module _ (table : List ℕ) (t : Table) (read : as_table (Ok t) ≡ read_table table) where
  pub table_is : t ≡ table_of table
  unfolding table_of
  table_is = ap (λ (a : TableAnswer). a.table) read

  pub table_done : (read_table table).number ≡ 0
  table_done = sym (ap (λ (a : TableAnswer). a.number) read)

  pub table_good : GoodTable t
  unfolding table_of
  table_good = good_table t (rw table_is (read_table_accepted table table_done))

  pub relation_there : (k : ℕ) → (8 if not (ltb k t.count)) ≡ 0 → k < 256
  relation_there k h = omega (arith, existing t.count k h, table_good.few_relations)

  module _ (e : ℕ) (there : (8 if not (ltb e t.events)) ≡ 0) where
    pub event_there : e < 64
    event_there = omega (arith, existing t.events e there, table_good.few_events)

    -- its byte stands in the image
    pub class_there : 4 + e < length table
    class_there = omega (arith, existing t.events e there, ap (λ (a : TableAnswer). a.table.events) read, read_table_exact table table_done)

    pub class_told : get_or table (4 + e) 0 < 256 → get_or table (4 + e) 0 ≡ class_byte (table_of table) e
    unfolding table_of
    class_told small =
        sym (class_is_byte table table_done e (omega (arith, existing t.events e there, ap (λ (a : TableAnswer). a.table.events) read)) small)

-- an event of images that are read
pub event_of_read : (table marking : List ℕ) → images_number table marking ≡ 0 → (e : ℕ) → (8 if not (ltb e (table_of table).events)) ≡ 0 → e < 64
event_of_read table marking read e h =
    omega (arith, existing (table_of table).events e h, (good _ _ (read_judged table marking read)).table_good.few_events)

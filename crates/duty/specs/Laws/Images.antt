-- What is read is judged 'done', and a marking image has a record's bytes for each of the table's events. Assumes nothing.
use Rattle.std.specs.Prelude.{◌≡◌, List, ℕ, ◌*◌, length}
use Rattle.rules.specs.Judge.{judged}
use Rattle.rules.specs.Image.{record_bytes, read_table, read_marking}
use Rattle.rules.specs.Images.{table_of, marking_of, images_number}
use Rattle.rules.proofs.Laws.Numbers.{both_done}
use Rattle.image.specs.Theorems.{read_table_accepted, read_marking_accepted, read_marking_exact}

module _ (table marking : List ℕ) (done : images_number table marking ≡ 0) where
  parts : ((read_table table).number ≡ 0) × ((read_marking (table_of table).events marking).number ≡ 0)
  unfolding images_number
  parts = both_done (read_table table).number (read_marking (table_of table).events marking).number done

  pub read_judged : judged (table_of table) (marking_of table marking) ≡ 0
  unfolding judged table_of marking_of
  read_judged = rw (read_table_accepted table parts.0) (read_marking_accepted (table_of table).events marking parts.1)

  pub marking_long : length marking ≡ record_bytes * (table_of table).events
  marking_long = read_marking_exact (table_of table).events marking parts.1

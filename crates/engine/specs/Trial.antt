-- A list that was tried: where it stopped says whether a start of it discharges, and which is the shortest.
use Rattle.std.specs.Prelude.{◌≡◌, true, false, List, ℕ, ◌+◌, length}
use Rattle.rules.specs.declared.Table.{Table}
use Rattle.rules.specs.declared.Marking.{Marking}
use Rattle.rules.specs.Judge.{judged}
use Rattle.rules.specs.Time.{any_due}
use Rattle.rules.specs.Remedy.{shortest}

-- so many of a list's events were caused, one after the other, and this is the marking after them
pub record Tried (t : Table) (m : Marking) (list : List ℕ) (count : ℕ) (after : Marking) : Type 0 where
  pub still_judged : judged t after ≡ 0
  -- none is due: the events caused so far are the shortest start
  pub discharged : any_due after ≡ false → shortest t m list ≡ count
  -- some is due: there is none
  pub failed : any_due after ≡ true → shortest t m list ≡ length list + 1

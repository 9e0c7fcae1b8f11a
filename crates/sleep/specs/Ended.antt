-- How a sleep by words ended.
use Rattle.std.specs.Prelude.{◌≡◌, List, ℕ, Result, Ok, Err, length, drop}
use Rattle.rules.specs.declared.Table.{Table}
use Rattle.rules.specs.declared.Marking.{Marking}
use Rattle.rules.specs.declared.verdict.CheckError.{CheckError}
use Rattle.rules.specs.Results.{as_slept}
use Rattle.rules.specs.Sleep.{slept, sleep_answer, sleep_list}
use Rattle.acts.specs.declared.marking_words.MarkingWords.{MarkingWords}
use Rattle.acts.specs.Words.{StandFor}

-- the answer is the one defined, with a marking that the words then stand for, and so is what the list holds
pub record Done (t : Table) (m : Marking) (ticks : ℕ) (list : List ℕ) (count : ℕ) (words : MarkingWords) (after : List ℕ) : Type 0 where
  pub stand : StandFor t.events (drop m.events m.records) words (slept t m ticks)
  pub answer : as_slept m (Ok (record { count = count; marking = slept t m ticks })) ≡ sleep_answer t m ticks (length list)
  pub listed : after ≡ sleep_list t m ticks list

pub record Refused (t : Table) (m : Marking) (ticks : ℕ) (list : List ℕ) (error : CheckError) (after : List ℕ) : Type 0 where
  pub answer : as_slept m (Err error) ≡ sleep_answer t m ticks (length list)
  pub listed : after ≡ sleep_list t m ticks list

abbrev pub Ended : Table → Marking → ℕ → List ℕ → Result ℕ CheckError → MarkingWords → List ℕ → Type 0
Ended t m ticks list (Ok count) words after = Done t m ticks list count words after
Ended t m ticks list (Err error) words after = Refused t m ticks list error after

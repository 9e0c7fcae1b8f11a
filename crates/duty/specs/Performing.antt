-- How a marking that a call answers is put back: what is said of it, what the buffer holds, and when it is put back whole.
use Rattle.std.specs.Prelude.{◌≡◌, List, ℕ, ◌*◌, length, Result, Ok, Err}
use Rattle.rules.specs.declared.refusal.Refusal.{Refusal}
use Rattle.rules.specs.declared.Marking.{Marking}
use Rattle.rules.specs.Judge.{marking_number}
use Rattle.rules.specs.Image.{record_bytes, write_number, write_marking}
use Rattle.rules.specs.Results.{refusal_number}

abbrev pub written_number : Result Marking Refusal → ℕ → ℕ
written_number (Ok m) room = write_number m room
written_number (Err refusal) room = refusal_number refusal

abbrev pub written : Result Marking Refusal → List ℕ → List ℕ
written (Ok m) buffer = write_marking m buffer
written (Err _) buffer = buffer

-- a marking whose image fills the buffer
pub record Fills (m : Marking) (buffer : List ℕ) : Type 0 where
  pub judged_done : marking_number m ≡ 0
  pub exact : record_bytes * m.events ≡ length buffer

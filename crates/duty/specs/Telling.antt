-- What C is told of a call that makes the check: its number, and what the places of reason and place hold afterwards.
use Rattle.std.specs.Prelude.{ℕ, Result, Ok, Err}
use Rattle.rules.specs.declared.verdict.CheckError.{CheckError}
use Rattle.rules.specs.declared.verdict.CheckError.TheVariants.{Refused, Rejected}
use Rattle.rules.specs.Results.{refusal_number, reason_number}

module _ {A : Type 0} where
  abbrev pub check_number_of : Result A CheckError → ℕ
  check_number_of (Ok _) = 0
  check_number_of (Err (Refused refusal)) = refusal_number refusal
  check_number_of (Err (Rejected _)) = 12

  abbrev pub reason_left : ℕ → Result A CheckError → ℕ
  reason_left before (Ok _) = 0
  reason_left before (Err (Refused _)) = before
  reason_left before (Err (Rejected rejection)) = reason_number rejection.reason

  abbrev pub place_left : ℕ → Result A CheckError → ℕ
  place_left before (Ok _) = 0
  place_left before (Err (Refused _)) = before
  place_left before (Err (Rejected rejection)) = rejection.place

-- Numbers that are never given: what may be said of the number of every public call.
use Rattle.std.specs.Prelude.{◌≡◌, Bool, not, ◌&&◌, List, [], ◌∷◌, ℕ, ◌<◌, ◌/◌, eqb, leb, length, get_or}
use Rattle.rules.specs.declared.Table.{Table}
use Rattle.rules.specs.declared.Marking.{Marking}
use Rattle.rules.specs.declared.Step.{Step}
use Rattle.rules.specs.Numbers.{margin_number, hold_up_number, check_number}
use Rattle.rules.specs.Judge.{table_number, marking_number_for}
use Rattle.rules.specs.Image.{read_table, read_marking, write_table_number, write_number, fresh}
use Rattle.rules.specs.Carrying.{carry_number}
use Rattle.rules.specs.Enabled.{enabled_answer}
use Rattle.rules.specs.Time.{due_answer, plain_tick}
use Rattle.rules.specs.Happen.{happen}
use Rattle.rules.specs.Margin.{margin}
use Rattle.rules.specs.HoldUp.{hold_up}
use Rattle.rules.specs.Chain.{chain_answer}
use Rattle.rules.specs.Closure.{closure_answer}
use Rattle.rules.specs.Check.{check}
use Rattle.rules.specs.Guard.{guarded_tick}
use Rattle.rules.specs.Remedy.{remedy}
use Rattle.rules.specs.Trace.{run, run_answers, run_bytes, run_bytes_answers}
use Rattle.rules.specs.Images.{images_number, guard_number, fields_number}
use Rattle.rules.specs.Building.{build_number, relation_told_number, class_told_number}
use Rattle.rules.specs.Station.{steps_part, station, heard_number}

-- the numbers that a call may give: 0 for 'done', 1 to 8, and 10 to 15
abbrev pub given : ℕ → Bool
given n = leb n 15 && not (eqb n 9)

-- P holds of every number that a public call gives
pub record EveryCall (P : ℕ → Type 0) : Type 0 where
  -- the image reader
  pub of_read_table : (image : List ℕ) → P (read_table image).number
  pub of_read_marking : (events : ℕ) (image : List ℕ) → P (read_marking events image).number
  pub of_write_table : (t : Table) (room : ℕ) → P (write_table_number t room)
  pub of_write_marking : (m : Marking) (room : ℕ) → P (write_number m room)
  pub of_carry_marking : (events : ℕ) (old : List ℕ) (room : ℕ) → P (carry_number events old room)
  pub of_fresh : (events : ℕ) → P (fresh events).number
  pub of_judge_table : (t : Table) → P (table_number t)
  pub of_judge_marking : (events : ℕ) (m : Marking) → P (marking_number_for events m)
  -- the engine
  pub of_enabled : (t : Table) (m : Marking) (e : ℕ) → P (enabled_answer t m e).number
  pub of_due : (t : Table) (m : Marking) → P (due_answer t m).number
  pub of_happen : (t : Table) (m : Marking) (e : ℕ) → P (happen t m e).number
  pub of_plain_tick : (t : Table) (m : Marking) → P (plain_tick t m).number
  pub of_margin : (t : Table) (m : Marking) (k : ℕ) → P (margin_number (margin t m k))
  pub of_hold_up : (t : Table) (m : Marking) (e : ℕ) → P (hold_up_number (hold_up t m e))
  pub of_chain : (t : Table) (m : Marking) (e room : ℕ) → P (chain_answer t m e room).number
  pub of_closure : (t : Table) (m : Marking) → P (closure_answer t m).number
  pub of_check : (t : Table) (m : Marking) → P (check_number (check t m))
  pub of_guarded_tick : (t : Table) (m : Marking) → P (guarded_tick t m).number
  pub of_remedies : (t : Table) (m : Marking) (preferred fallback : List ℕ) → P (remedy t m preferred fallback).number
  -- the runner: its number, and each answer byte of a trace that is granted
  pub of_run : (t : Table) (m : Marking) (steps : List Step) (room : ℕ) → P (run t m steps room).number
  pub of_run_answers : (t : Table) (m : Marking) (steps : List Step) (buffer : List ℕ) → (run t m steps (length buffer)).number ≡ 0
      → (i : ℕ) → i < length steps → P (get_or (run_answers t m steps buffer) i 0)
  pub of_run_bytes : (t : Table) (m : Marking) (bytes : List ℕ) (room : ℕ) → P (run_bytes t m bytes room).number
  pub of_run_bytes_answers : (t : Table) (m : Marking) (bytes buffer : List ℕ) → (run_bytes t m bytes (length buffer)).number ≡ 0
      → (i : ℕ) → i < length bytes / 2 → P (get_or (run_bytes_answers t m bytes buffer) i 0)
  -- the station: its call's number; the one byte of a refusal, and each answer byte
  pub of_heard : (kept beyond room : ℕ) → P (heard_number kept beyond room)
  pub of_station : (input : List ℕ) (byte : ℕ) → station input ≡ byte ∷ [] → P byte
  pub of_station_answers : (input : List ℕ) (i : ℕ) → i < length (steps_part input) / 2 → P (get_or (station input) i 0)
  -- what the calls for C ask before their rule, of a record's fields, and of a table built and told in numbers
  pub of_images : (table marking : List ℕ) → P (images_number table marking)
  pub of_guard : (table marking : List ℕ) (room : ℕ) → P (guard_number table marking room)
  pub of_fields : (table marking : List ℕ) (event room : ℕ) → P (fields_number table marking event room)
  pub of_build : (events firm : ℕ) (classes numbers : List ℕ) (room : ℕ) → P (build_number events firm classes numbers room)
  pub of_relation_told : (table : List ℕ) (relation room : ℕ) → P (relation_told_number table relation room)
  pub of_class_told : (table : List ℕ) (event : ℕ) → P (class_told_number table event)

-- n is given by no call
abbrev pub Never : ℕ → Type 0
Never n = EveryCall (λ number. number ≡ n → ⊥)

-- Unused places: relations past a table's count, class bits and records past the event count. No call looks at them: tables and markings that
-- agree on the places in use get answers that agree there. A call that changes a marking keeps its unused places.
use Rattle.std.specs.Prelude.{◌≡◌, List, ℕ, ◌<◌, ◌≤◌, length}
use Rattle.rules.specs.declared.Table.{Table}
use Rattle.rules.specs.declared.Marking.{Marking}
use Rattle.rules.specs.declared.Step.{Step}
use Rattle.rules.specs.Answers.{MarkingAnswer, GuardedAnswer, SleptAnswer}
use Rattle.rules.specs.Holds.{is_controllable, is_causable, relation_of, record_of}
use Rattle.rules.specs.Judge.{table_number, marking_number_for}
use Rattle.rules.specs.Image.{write_table_number, write_table, write_number, write_marking}
use Rattle.rules.specs.Enabled.{enabled_answer}
use Rattle.rules.specs.Time.{due_answer, plain_tick}
use Rattle.rules.specs.Happen.{happen}
use Rattle.rules.specs.Margin.{margin}
use Rattle.rules.specs.HoldUp.{hold_up}
use Rattle.rules.specs.Chain.{chain_answer, chain_list}
use Rattle.rules.specs.Closure.{closure_answer}
use Rattle.rules.specs.Check.{check}
use Rattle.rules.specs.Guard.{guarded_tick}
use Rattle.rules.specs.Remedy.{remedy}
use Rattle.rules.specs.Trace.{run, run_answers, run_bytes, run_bytes_answers}

-- two tables agree on the places in use
pub record SameTable (t u : Table) : Type 0 where
  pub same_events : t.events ≡ u.events
  pub same_count : t.count ≡ u.count
  pub same_relation : (k : ℕ) → k < t.count → relation_of t k ≡ relation_of u k
  pub same_controllable : (e : ℕ) → e < t.events → is_controllable t e ≡ is_controllable u e
  pub same_causable : (e : ℕ) → e < t.events → is_causable t e ≡ is_causable u e
  pub same_firm : t.firm ≡ u.firm

-- two markings have the same number of places, which for decoded markings is always 64, and agree on those in use
pub record SameMarking (m n : Marking) : Type 0 where
  pub same_length : length m.records ≡ length n.records
  pub same_events : m.events ≡ n.events
  pub same_record : (e : ℕ) → e < m.events → record_of m e ≡ record_of n e

-- answers that hold a marking: every other part is the same
pub record SameAnswer (a b : MarkingAnswer) : Type 0 where
  pub same_number : a.number ≡ b.number
  pub same_marking : SameMarking a.marking b.marking

pub record SameGuarded (a b : GuardedAnswer) : Type 0 where
  pub same_number : a.number ≡ b.number
  pub same_reason : a.reason ≡ b.reason
  pub same_place : a.place ≡ b.place
  pub same_caused : a.caused ≡ b.caused
  pub same_count : a.count ≡ b.count
  pub same_marking : SameMarking a.marking b.marking

pub record SameSlept (a b : SleptAnswer) : Type 0 where
  pub same_number : a.number ≡ b.number
  pub same_reason : a.reason ≡ b.reason
  pub same_place : a.place ≡ b.place
  pub same_count : a.count ≡ b.count
  pub same_marking : SameMarking a.marking b.marking

-- a marking, and one in which its unused places are kept
pub record KeepsUnused (before after : Marking) : Type 0 where
  pub kept_length : length after.records ≡ length before.records
  pub kept_events : after.events ≡ before.events
  pub kept_record : (e : ℕ) → before.events ≤ e → record_of after e ≡ record_of before e

-- every public call that is handed a table or a marking gives t and m, and u and n, answers that agree
pub record NoneLooks (t u : Table) (m n : Marking) : Type 0 where
  -- the image reader
  pub of_write_table_number : (room : ℕ) → write_table_number t room ≡ write_table_number u room
  pub of_write_table : (buffer : List ℕ) → write_table t buffer ≡ write_table u buffer
  pub of_write_number : (room : ℕ) → write_number m room ≡ write_number n room
  pub of_write_marking : (buffer : List ℕ) → write_marking m buffer ≡ write_marking n buffer
  pub of_judge_table : table_number t ≡ table_number u
  pub of_judge_marking : (events : ℕ) → marking_number_for events m ≡ marking_number_for events n
  -- the engine
  pub of_enabled : (e : ℕ) → enabled_answer t m e ≡ enabled_answer u n e
  pub of_due : due_answer t m ≡ due_answer u n
  pub of_happen : (e : ℕ) → SameAnswer (happen t m e) (happen u n e)
  pub of_plain_tick : SameAnswer (plain_tick t m) (plain_tick u n)
  pub of_margin : (k : ℕ) → margin t m k ≡ margin u n k
  pub of_hold_up : (e : ℕ) → hold_up t m e ≡ hold_up u n e
  pub of_chain : (e room : ℕ) → chain_answer t m e room ≡ chain_answer u n e room
  pub of_chain_list : (e : ℕ) (list : List ℕ) → chain_list t m e list ≡ chain_list u n e list
  pub of_closure : closure_answer t m ≡ closure_answer u n
  pub of_check : check t m ≡ check u n
  pub of_guarded_tick : SameGuarded (guarded_tick t m) (guarded_tick u n)
  pub of_remedies : (preferred fallback : List ℕ) → remedy t m preferred fallback ≡ remedy u n preferred fallback
  -- the runner: its answer, and what the lent buffer holds afterwards
  pub of_run : (steps : List Step) (room : ℕ) → SameAnswer (run t m steps room) (run u n steps room)
  pub of_run_answers : (steps : List Step) (buffer : List ℕ) → run_answers t m steps buffer ≡ run_answers u n steps buffer
  pub of_run_bytes : (bytes : List ℕ) (room : ℕ) → SameAnswer (run_bytes t m bytes room) (run_bytes u n bytes room)
  pub of_run_bytes_answers : (bytes buffer : List ℕ) → run_bytes_answers t m bytes buffer ≡ run_bytes_answers u n bytes buffer

-- every public call that gives a marking back keeps the unused places of the one handed in
pub record AllKeep (t : Table) (m : Marking) : Type 0 where
  pub of_happen : (e : ℕ) → KeepsUnused m (happen t m e).marking
  pub of_plain_tick : KeepsUnused m (plain_tick t m).marking
  pub of_guarded_tick : KeepsUnused m (guarded_tick t m).marking
  pub of_run : (steps : List Step) (room : ℕ) → KeepsUnused m (run t m steps room).marking
  pub of_run_bytes : (bytes : List ℕ) (room : ℕ) → KeepsUnused m (run_bytes t m bytes room).marking

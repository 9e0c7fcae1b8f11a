-- Numbers that no call for C gives. What holds of each of the given numbers holds of the number of every exported call that keeps its promise, and
-- of each answer byte of a trace; so one that is not among them is given by none. A set's size and its lowest event are no refusals, and are not
-- among these. It speaks of the contracts themselves, as the check reads them. Assumes nothing.
use mathlib.Core.Path.{◌≡◌, refl, ◌∙◌, sym, subst}
use mathlib.Core.Bool.{true, false}
use mathlib.Core.List.{List}
use Prim.Native.Nat.{ℕ, ◌<◌, ◌*◌, ◌/◌}
use lib.Dec.{ltb}
use lib.ListN.{length, get_or}
use Rattle.rules.specs.declared.Table.{Table}
use Rattle.rules.specs.declared.Marking.{Marking}
use Rattle.rules.specs.Answers.{ToldMargin, ToldHoldUp, ToldCheck}
use Rattle.rules.specs.Numbers.{◌if◌, ◌else◌}
use Rattle.rules.specs.Image.{record_bytes, fresh as freshMarking}
use Rattle.rules.specs.Margin.{told_margin}
use Rattle.rules.specs.HoldUp.{told_hold_up}
use Rattle.rules.specs.Check.{told_check}
use Rattle.rules.specs.Images.{table_of, marking_of, images_number}
use Rattle.rules.specs.Given.{given, EveryCall}
use Rattle.rules.proofs.Laws.InNumbers.{margin_in_numbers_lem, hold_up_in_numbers_lem, check_in_numbers_lem}
use Rattle.rules.proofs.Laws.Numbers.{both_done}
use Rattle.rules.proofs.Laws.Tests.{clash}
use Rattle.rules.proofs.Laws.Never.{if_given, else_given, every_call, sleep_given as engine-sleep, quiet_given as engine-quiet}
use Rattle.duty.proofs.Chained.{Made, Happen, PlainTick, Check, GuardedTick, Sleep, Quiet, Run, Remedies, Record}
use Rattle.duty.proofs.duty_judge.Kinds as judge-kinds
use Rattle.duty.proofs.duty_judge.Reads as judge
use Rattle.duty.proofs.duty_fresh.Kinds as fresh-kinds
use Rattle.duty.proofs.duty_fresh.Reads as fresh
use Rattle.duty.proofs.duty_carry.Kinds as carry-kinds
use Rattle.duty.proofs.duty_carry.Reads as carry
use Rattle.duty.proofs.duty_write_table.Kinds as write-table-kinds
use Rattle.duty.proofs.duty_write_table.Reads as write-table
use Rattle.duty.proofs.duty_relation.Kinds as relation-kinds
use Rattle.duty.proofs.duty_relation.Reads as relation
use Rattle.duty.proofs.duty_class.Kinds as class-kinds
use Rattle.duty.proofs.duty_class.Reads as class
use Rattle.duty.proofs.duty_firm.Kinds as firm-kinds
use Rattle.duty.proofs.duty_firm.Reads as firm
use Rattle.duty.proofs.duty_enabled.Kinds as enabled-kinds
use Rattle.duty.proofs.duty_enabled.Reads as enabled
use Rattle.duty.proofs.duty_due.Kinds as due-kinds
use Rattle.duty.proofs.duty_due.Reads as due
use Rattle.duty.proofs.duty_margin.Kinds as margin-kinds
use Rattle.duty.proofs.duty_margin.Reads as margin
use Rattle.duty.proofs.duty_hold_up.Kinds as hold-up-kinds
use Rattle.duty.proofs.duty_hold_up.Reads as hold-up
use Rattle.duty.proofs.duty_chain.Kinds as chain-kinds
use Rattle.duty.proofs.duty_chain.Reads as chain
use Rattle.duty.proofs.duty_closure.Kinds as closure-kinds
use Rattle.duty.proofs.duty_closure.Reads as closure

-- P holds of every number that a call for C gives
pub record EveryExported (P : ℕ → Type 0) : Type 0 where
  pub of_judge : (call : Made 2 judge-kinds.ps judge-kinds.r judge.Learnt) → P call.answer
  pub of_fresh : (call : Made 1 fresh-kinds.ps fresh-kinds.r fresh.Learnt) → P call.answer
  pub of_carry : (call : Made 2 carry-kinds.ps carry-kinds.r carry.Learnt) → P call.answer
  pub of_write_table : (call : Made 3 write-table-kinds.ps write-table-kinds.r write-table.Learnt) → P call.answer
  pub of_relation : (call : Made 2 relation-kinds.ps relation-kinds.r relation.Learnt) → P call.answer
  pub of_class : (call : Made 2 class-kinds.ps class-kinds.r class.Learnt) → P call.answer
  pub of_firm : (call : Made 2 firm-kinds.ps firm-kinds.r firm.Learnt) → P call.answer
  pub of_record : (call : Record) → P call.answer
  pub of_enabled : (call : Made 3 enabled-kinds.ps enabled-kinds.r enabled.Learnt) → P call.answer
  pub of_due : (call : Made 3 due-kinds.ps due-kinds.r due.Learnt) → P call.answer
  pub of_happen : (call : Happen) → P call.answer
  pub of_plain_tick : (call : PlainTick) → P call.answer
  pub of_margin : (call : Made 4 margin-kinds.ps margin-kinds.r margin.Learnt) → P call.answer
  pub of_hold_up : (call : Made 4 hold-up-kinds.ps hold-up-kinds.r hold-up.Learnt) → P call.answer
  pub of_chain : (call : Made 4 chain-kinds.ps chain-kinds.r chain.Learnt) → P call.answer
  pub of_closure : (call : Made 4 closure-kinds.ps closure-kinds.r closure.Learnt) → P call.answer
  pub of_check : (call : Check) → P call.answer
  pub of_guarded_tick : (call : GuardedTick) → P call.answer
  pub of_remedies : (call : Remedies) → P call.answer
  pub of_run : (call : Run) → P call.answer
  -- each answer byte of a trace that is played
  pub of_run_answers : (call : Run) → call.answer ≡ 0
      → (i : ℕ) → i < length call.handed.1.1.0.now / 2 → P (get_or call.left.1.1.1.0.now i 0)

module _ (P : ℕ → Type 0) (each : (number : ℕ) → given number ≡ true → P number) where
  abbrev every : EveryCall P
  every = every_call P each

  -- a rule's number, behind the images'
  behind : (table marking : List ℕ) (own : ℕ) → P own → {answer : ℕ} → answer ≡ (images_number table marking else own) → P answer
  behind table marking own p is = subst P (sym is) (else_given P each (images_number table marking) own (every.of_images table marking) p)

  -- a fresh marking's image, and room for it
  image_of_fresh : (events room : ℕ) → P ((freshMarking events).number else 14 if ltb room (record_bytes * events))
  image_of_fresh events room =
      else_given P each (freshMarking events).number _ (every.of_fresh events) (if_given P each 14 (ltb room (record_bytes * events)) refl)

  -- what is told in numbers
  margin_told_lem : (t : Table) (m : Marking) (k : ℕ) → P (told_margin t m k).number
  margin_told_lem t m k = subst (λ (a : ToldMargin). P a.number) (margin_in_numbers_lem t m k) (every.of_margin t m k)

  hold_up_told_lem : (t : Table) (m : Marking) (e : ℕ) → P (told_hold_up t m e).number
  hold_up_told_lem t m e = subst (λ (a : ToldHoldUp). P a.number) (hold_up_in_numbers_lem t m e) (every.of_hold_up t m e)

  check_told_lem : (t : Table) (m : Marking) → P (told_check t m).number
  check_told_lem t m = subst (λ (a : ToldCheck). P a.number) (check_in_numbers_lem t m) (every.of_check t m)

  played : (call : Run) → call.answer ≡ 0 → (i : ℕ) → i < length call.handed.1.1.0.now / 2 → P (get_or call.left.1.1.1.0.now i 0)
  played call h i b =
      let table = call.handed.0.now in
      let marking = call.handed.1.0.now in
      let steps = call.handed.1.1.0.now in
      let lent = call.handed.1.1.1.0.now in
      let granted = (both_done (images_number table marking) _ (sym call.promised.0 ∙ h)).1 in
      subst (λ (l : List ℕ). P (get_or l i 0)) (sym (rw h at call.promised.1.1))
      (every.of_run_bytes_answers (table_of table) (marking_of table marking) steps lent granted i b)

  pub every_exported : EveryExported P
  every_exported = record {
    of_judge = λ call. subst P (sym call.promised) (every.of_images _ _);
    of_fresh = λ call. subst P (sym call.promised.0) (image_of_fresh _ _);
    of_carry = λ call. subst P (sym call.promised.0) (every.of_carry_marking _ _ _);
    of_write_table = λ call. subst P (sym call.promised.0) (every.of_build _ _ _ _ _);
    of_relation = λ call. subst P (sym call.promised.0) (every.of_relation_told _ _ _);
    of_class = λ call. subst P (sym call.promised.0) (every.of_class_told _ _);
    of_firm = λ call. subst P (sym call.promised.0) (every.of_read_table _);
    of_record = λ call. subst P (sym call.promised.0) (every.of_fields _ _ _ _);
    of_enabled = λ call. behind _ _ _ (every.of_enabled _ _ _) call.promised.0;
    of_due = λ call. behind _ _ _ (every.of_due _ _) call.promised.0;
    of_happen = λ call. behind _ _ _ (every.of_happen _ _ _) call.promised.0;
    of_plain_tick = λ call. behind _ _ _ (every.of_plain_tick _ _) call.promised.0;
    of_margin = λ call. behind _ _ _ (margin_told_lem _ _ _) call.promised.0;
    of_hold_up = λ call. behind _ _ _ (hold_up_told_lem _ _ _) call.promised.0;
    of_chain = λ call. behind _ _ _ (every.of_chain _ _ _ _) call.promised.0;
    of_closure = λ call. behind _ _ _ (every.of_closure _ _) call.promised.0;
    of_check = λ call. behind _ _ _ (check_told_lem _ _) call.promised.0;
    of_guarded_tick = λ call.
        subst P (sym call.promised.0) (else_given P each _ _ (every.of_guard _ _ _) (every.of_guarded_tick _ _));
    of_remedies = λ call. behind _ _ _ (every.of_remedies _ _ _ _) call.promised.0;
    of_run = λ call. behind _ _ _ (every.of_run_bytes _ _ _ _) call.promised.0;
    of_run_answers = played;
  }

  -- and of the calls that came after these: duty_sleep and duty_quiet
  pub sleep_given : (call : Sleep) → P call.answer
  sleep_given call = behind _ _ _ (engine-sleep P each _ _ _ _) call.promised.0

  pub quiet_given : (call : Quiet) → P call.answer
  quiet_given call = behind _ _ _ (engine-quiet P each _ _) call.promised.0

pub never : (n : ℕ) → given n ≡ false → EveryExported (λ number. number ≡ n → ⊥)
never n none = every_exported (λ number. number ≡ n → ⊥) (λ number g e. clash g (rw e none))

-- nor do duty_sleep and duty_quiet
pub sleep_never : (n : ℕ) → given n ≡ false → (call : Sleep) → call.answer ≡ n → ⊥
sleep_never n none = sleep_given (λ number. number ≡ n → ⊥) (λ number g e. clash g (rw e none))

pub quiet_never : (n : ℕ) → given n ≡ false → (call : Quiet) → call.answer ≡ n → ⊥
quiet_never n none = quiet_given (λ number. number ≡ n → ⊥) (λ number g e. clash g (rw e none))

pub never_nine : EveryExported (λ number. number ≡ 9 → ⊥)
never_nine = never 9 refl

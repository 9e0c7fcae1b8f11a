-- The promise of each exported call leaves one answer and one content of each lent buffer: two that both meet it, of the same arguments, are
-- equal. It is stated about the contract itself, as the check reads it. Assumes nothing.
use mathlib.Core.Path.{◌≡◌, sym, ap, ◌∙◌}
use Prim.Native.Nat.{ℕ}
use Rattle.rules.specs.Numbers.{done}
use Rattle.image.proofs.Promises.{Agree}
use Rattle.duty.proofs.duty_judge.Kinds as judge-kinds
use Rattle.duty.proofs.duty_judge.Reads as judge
use Rattle.duty.proofs.duty_fresh.Kinds as fresh-kinds
use Rattle.duty.proofs.duty_fresh.Reads as fresh
use Rattle.duty.proofs.duty_carry.Kinds as carry-kinds
use Rattle.duty.proofs.duty_carry.Reads as carry
use Rattle.duty.proofs.duty_write_table.Kinds as write-table-kinds
use Rattle.duty.proofs.duty_write_table.Reads as write-table
use Rattle.duty.proofs.duty_relation.Kinds as relation-kinds
use Rattle.duty.proofs.duty_relation.Reads as relation
use Rattle.duty.proofs.duty_class.Kinds as class-kinds
use Rattle.duty.proofs.duty_class.Reads as class
use Rattle.duty.proofs.duty_firm.Kinds as firm-kinds
use Rattle.duty.proofs.duty_firm.Reads as firm
use Rattle.duty.proofs.duty_record.Kinds as record-kinds
use Rattle.duty.proofs.duty_record.Reads as record-reads
use Rattle.duty.proofs.duty_size.Kinds as size-kinds
use Rattle.duty.proofs.duty_size.Reads as size
use Rattle.duty.proofs.duty_lowest.Kinds as lowest-kinds
use Rattle.duty.proofs.duty_lowest.Reads as lowest
use Rattle.duty.proofs.duty_enabled.Kinds as enabled-kinds
use Rattle.duty.proofs.duty_enabled.Reads as enabled
use Rattle.duty.proofs.duty_due.Kinds as due-kinds
use Rattle.duty.proofs.duty_due.Reads as due
use Rattle.duty.proofs.duty_happen.Kinds as happen-kinds
use Rattle.duty.proofs.duty_happen.Reads as happen
use Rattle.duty.proofs.duty_plain_tick.Kinds as plain-tick-kinds
use Rattle.duty.proofs.duty_plain_tick.Reads as plain-tick
use Rattle.duty.proofs.duty_margin.Kinds as margin-kinds
use Rattle.duty.proofs.duty_margin.Reads as margin
use Rattle.duty.proofs.duty_hold_up.Kinds as hold-up-kinds
use Rattle.duty.proofs.duty_hold_up.Reads as hold-up
use Rattle.duty.proofs.duty_chain.Kinds as chain-kinds
use Rattle.duty.proofs.duty_chain.Reads as chain
use Rattle.duty.proofs.duty_closure.Kinds as closure-kinds
use Rattle.duty.proofs.duty_closure.Reads as closure
use Rattle.duty.proofs.duty_check.Kinds as check-kinds
use Rattle.duty.proofs.duty_check.Reads as check
use Rattle.duty.proofs.duty_guarded_tick.Kinds as guarded-tick-kinds
use Rattle.duty.proofs.duty_guarded_tick.Reads as guarded_tick_lem
use Rattle.duty.proofs.duty_quiet.Kinds as quiet-kinds
use Rattle.duty.proofs.duty_quiet.Reads as quiet
use Rattle.duty.proofs.duty_sleep.Kinds as sleep-kinds
use Rattle.duty.proofs.duty_sleep.Reads as sleep
use Rattle.duty.proofs.duty_remedies.Kinds as remedies-kinds
use Rattle.duty.proofs.duty_remedies.Reads as remedies
use Rattle.duty.proofs.duty_run.Kinds as run-kinds
use Rattle.duty.proofs.duty_run.Reads as run

-- what is done where nothing is refused, told twice by the same number
told : {A : Type 0} (after before : A) {a b : ℕ} → a ≡ b → {x y : A} → x ≡ done a after before → y ≡ done b after before → x ≡ y
told {A} after before e p q = p ∙ ap (λ (n : ℕ). done n after before) e ∙ sym q

pub judge_once : Agree 2 judge-kinds.ps judge-kinds.r judge.Learnt (λ κs one other x y. one ≡ other)
judge_once κs a one other x y p q = p ∙ sym q

pub fresh_once : Agree 1 fresh-kinds.ps fresh-kinds.r fresh.Learnt
    (λ κs one other x y. (one ≡ other) × (x.1.0.now ≡ y.1.0.now))
fresh_once κs a one other x y p q = let same = p.0 ∙ sym q.0 in (same, told _ _ same p.1 q.1)

pub carry_once : Agree 2 carry-kinds.ps carry-kinds.r carry.Learnt
    (λ κs one other x y. (one ≡ other) × (x.1.1.0.now ≡ y.1.1.0.now))
carry_once κs a one other x y p q = (p.0 ∙ sym q.0, p.1 ∙ sym q.1)

pub write_table_once : Agree 3 write-table-kinds.ps write-table-kinds.r write-table.Learnt
    (λ κs one other x y. (one ≡ other) × (x.1.1.1.1.0.now ≡ y.1.1.1.1.0.now))
write_table_once κs a one other x y p q = (p.0 ∙ sym q.0, p.1 ∙ sym q.1)

pub relation_once : Agree 2 relation-kinds.ps relation-kinds.r relation.Learnt
    (λ κs one other x y. (one ≡ other) × (x.1.1.0.now ≡ y.1.1.0.now))
relation_once κs a one other x y p q = (p.0 ∙ sym q.0, p.1 ∙ sym q.1)

pub class_once : Agree 2 class-kinds.ps class-kinds.r class.Learnt
    (λ κs one other x y. (one ≡ other) × (x.1.1.0.now ≡ y.1.1.0.now))
class_once κs a one other x y p q = let same = p.0 ∙ sym q.0 in (same, told _ _ same p.1 q.1)

pub firm_once : Agree 2 firm-kinds.ps firm-kinds.r firm.Learnt
    (λ κs one other x y. (one ≡ other) × (x.1.0.now ≡ y.1.0.now))
firm_once κs a one other x y p q = let same = p.0 ∙ sym q.0 in (same, told _ _ same p.1 q.1)

pub record_once : Agree 3 record-kinds.ps record-kinds.r record-reads.Learnt
    (λ κs one other x y. (one ≡ other) × (x.1.1.1.0.now ≡ y.1.1.1.0.now))
record_once κs a one other x y p q = (p.0 ∙ sym q.0, p.1 ∙ sym q.1)

pub size_once : Agree 0 size-kinds.ps size-kinds.r size.Learnt (λ κs one other x y. one ≡ other)
size_once κs a one other x y p q = p ∙ sym q

pub lowest_once : Agree 0 lowest-kinds.ps lowest-kinds.r lowest.Learnt (λ κs one other x y. one ≡ other)
lowest_once κs a one other x y p q = p ∙ sym q

pub enabled_once : Agree 3 enabled-kinds.ps enabled-kinds.r enabled.Learnt
    (λ κs one other x y. (one ≡ other) × (x.1.1.1.0.now ≡ y.1.1.1.0.now))
enabled_once κs a one other x y p q = let same = p.0 ∙ sym q.0 in (same, told _ _ same p.1 q.1)

pub due_once : Agree 3 due-kinds.ps due-kinds.r due.Learnt
    (λ κs one other x y. (one ≡ other) × (x.1.1.0.now ≡ y.1.1.0.now))
due_once κs a one other x y p q = let same = p.0 ∙ sym q.0 in (same, told _ _ same p.1 q.1)

pub happen_once : Agree 2 happen-kinds.ps happen-kinds.r happen.Learnt
    (λ κs one other x y. (one ≡ other) × (x.1.0.now ≡ y.1.0.now))
happen_once κs a one other x y p q = let same = p.0 ∙ sym q.0 in (same, told _ _ same p.1 q.1)

pub plain_tick_once : Agree 2 plain-tick-kinds.ps plain-tick-kinds.r plain-tick.Learnt
    (λ κs one other x y. (one ≡ other) × (x.1.0.now ≡ y.1.0.now))
plain_tick_once κs a one other x y p q = let same = p.0 ∙ sym q.0 in (same, told _ _ same p.1 q.1)

pub margin_once : Agree 4 margin-kinds.ps margin-kinds.r margin.Learnt
    (λ κs one other x y. (one ≡ other) × (x.1.1.1.0.now ≡ y.1.1.1.0.now) × (x.1.1.1.1.0.now ≡ y.1.1.1.1.0.now))
margin_once κs a one other x y p q = let same = p.0 ∙ sym q.0 in (same, told _ _ same p.1.0 q.1.0, told _ _ same p.1.1 q.1.1)

pub hold_up_once : Agree 4 hold-up-kinds.ps hold-up-kinds.r hold-up.Learnt
    (λ κs one other x y. (one ≡ other) × (x.1.1.1.0.now ≡ y.1.1.1.0.now) × (x.1.1.1.1.0.now ≡ y.1.1.1.1.0.now))
hold_up_once κs a one other x y p q = let same = p.0 ∙ sym q.0 in (same, told _ _ same p.1.0 q.1.0, told _ _ same p.1.1 q.1.1)

pub chain_once : Agree 4 chain-kinds.ps chain-kinds.r chain.Learnt
    (λ κs one other x y. (one ≡ other) × (x.1.1.1.0.now ≡ y.1.1.1.0.now) × (x.1.1.1.1.0.now ≡ y.1.1.1.1.0.now))
chain_once κs a one other x y p q = let same = p.0 ∙ sym q.0 in (same, told _ _ same p.1.0 q.1.0, told _ _ same p.1.1 q.1.1)

pub closure_once : Agree 4 closure-kinds.ps closure-kinds.r closure.Learnt
    (λ κs one other x y. (one ≡ other) × (x.1.1.0.now ≡ y.1.1.0.now) × (x.1.1.1.0.now ≡ y.1.1.1.0.now))
closure_once κs a one other x y p q = let same = p.0 ∙ sym q.0 in (same, told _ _ same p.1.0 q.1.0, told _ _ same p.1.1 q.1.1)

pub check_once : Agree 4 check-kinds.ps check-kinds.r check.Learnt
    (λ κs one other x y. (one ≡ other) × (x.1.1.0.now ≡ y.1.1.0.now) × (x.1.1.1.0.now ≡ y.1.1.1.0.now))
check_once κs a one other x y p q = let same = p.0 ∙ sym q.0 in (same, p.1.0 ∙ sym q.1.0, p.1.1 ∙ sym q.1.1)

pub guarded_tick_once : Agree 6 guarded-tick-kinds.ps guarded-tick-kinds.r guarded_tick_lem.Learnt
    (λ κs one other x y. (one ≡ other) × (x.1.0.now ≡ y.1.0.now) × (x.1.1.0.now ≡ y.1.1.0.now) × (x.1.1.1.0.now ≡ y.1.1.1.0.now)
    × (x.1.1.1.1.0.now ≡ y.1.1.1.1.0.now) × (x.1.1.1.1.1.0.now ≡ y.1.1.1.1.1.0.now))
guarded_tick_once κs a one other x y p q =
    let same =
    p.0 ∙ sym q.0 in (
      same,
      told _ _ same p.1.0 q.1.0,
      told _ _ same p.1.1.0 q.1.1.0,
      told _ _ same p.1.1.1.0 q.1.1.1.0,
      p.1.1.1.1.0 ∙ sym q.1.1.1.1.0,
      p.1.1.1.1.1 ∙ sym q.1.1.1.1.1,
    )

pub sleep_once : Agree 6 sleep-kinds.ps sleep-kinds.r sleep.Learnt
    (λ κs one other x y. (one ≡ other) × (x.1.0.now ≡ y.1.0.now) × (x.1.1.1.0.now ≡ y.1.1.1.0.now)
    × (x.1.1.1.1.0.now ≡ y.1.1.1.1.0.now) × (x.1.1.1.1.1.0.now ≡ y.1.1.1.1.1.0.now)
    × (x.1.1.1.1.1.1.0.now ≡ y.1.1.1.1.1.1.0.now))
sleep_once κs a one other x y p q =
    let same =
    p.0 ∙ sym q.0 in (
      same,
      told _ _ same p.1.0 q.1.0,
      told _ _ same p.1.1.0 q.1.1.0,
      told _ _ same p.1.1.1.0 q.1.1.1.0,
      (rw same at p.1.1.1.1.0) ∙ sym q.1.1.1.1.0,
      (rw same at p.1.1.1.1.1) ∙ sym q.1.1.1.1.1,
    )

pub quiet_once : Agree 3 quiet-kinds.ps quiet-kinds.r quiet.Learnt (λ κs one other x y. (one ≡ other) × (x.1.1.0.now ≡ y.1.1.0.now))
quiet_once κs a one other x y p q = let same = p.0 ∙ sym q.0 in (same, told _ _ same p.1 q.1)

pub remedies_once : Agree 6 remedies-kinds.ps remedies-kinds.r remedies.Learnt
    (λ κs one other x y. (one ≡ other) × (x.1.1.1.1.0.now ≡ y.1.1.1.1.0.now) × (x.1.1.1.1.1.0.now ≡ y.1.1.1.1.1.0.now))
remedies_once κs a one other x y p q = let same = p.0 ∙ sym q.0 in (same, told _ _ same p.1.0 q.1.0, told _ _ same p.1.1 q.1.1)

pub run_once : Agree 4 run-kinds.ps run-kinds.r run.Learnt
    (λ κs one other x y. (one ≡ other) × (x.1.0.now ≡ y.1.0.now) × (x.1.1.1.0.now ≡ y.1.1.1.0.now))
run_once κs a one other x y p q = let same = p.0 ∙ sym q.0 in (same, told _ _ same p.1.0 q.1.0, told _ _ same p.1.1 q.1.1)

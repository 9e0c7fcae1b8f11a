-- A result is told by the answer that it is read as: two results that are read as one answer are one.
use mathlib.Core.Path.{◌≡◌, refl, sym, ap, ap₂, ◌∙◌}
use Prim.Native.Nat.{ℕ}
use Rattle.std.specs.Prelude.{Bool, false, ℤ, cond, eqb, Option, Some, None, Result, Ok, Err}
use Rattle.rules.specs.declared.Table.{Table}
use Rattle.rules.specs.declared.Marking.{Marking}
use Rattle.rules.specs.declared.refusal.Refusal.{Refusal}
use Rattle.rules.specs.declared.refusal.Refusal.TheVariants.{
  Length,
  SpareBit,
  Counts,
  Kind,
  Ends,
  Time,
  Record,
  NotThere,
  NotEnabled,
  StillDue,
  Rejected as rejected,
  NoRemedy,
  Room,
  Step,
}
use Rattle.rules.specs.declared.answers.Closure.{Closure}
use Rattle.rules.specs.declared.answers.Margin.{Margin}
use Rattle.rules.specs.declared.answers.Margin.TheVariants.{NotACondition as notACondition, Ignored as ignored, Counts as counts}
use Rattle.rules.specs.declared.answers.HoldUp.{HoldUp}
use Rattle.rules.specs.declared.answers.HoldUp.TheVariants.{
  Enabled as enabled,
  EnabledUnless as enabledUnless,
  Excluded as excluded,
  Blocked as blocked,
}
use Rattle.rules.specs.declared.answers.Guarded.{Guarded}
use Rattle.rules.specs.declared.answers.Slept.{Slept}
use Rattle.rules.specs.Answers.{GuardedAnswer, SleptAnswer, TableAnswer, MarkingAnswer, EnabledAnswer, SetAnswer, ClosureAnswer, ChainAnswer, TicksAnswer}
use Rattle.rules.specs.declared.verdict.Reason.{Reason}
use Rattle.rules.specs.declared.verdict.Reason.TheVariants.{Unreportable, Uncausable, Waiting, Cyclic, Reopening, Reviving}
use Rattle.rules.specs.declared.verdict.Rejection.{Rejection}
use Rattle.rules.specs.declared.verdict.CheckError.{CheckError}
use Rattle.rules.specs.declared.verdict.CheckError.TheVariants.{Refused, Rejected}
use Rattle.rules.specs.Rest.{Rest, Never as never, By as by}
use Rattle.rules.specs.MarginAnswer.{MarginAnswer, Refused as refusedMargin, NotACondition, Ignored, Never, By}
use Rattle.rules.specs.HoldUpAnswer.{HoldUpAnswer, Refused as refusedHoldUp, Enabled, EnabledUnless, Excluded, Blocked}
use Rattle.rules.specs.CheckAnswer.{CheckAnswer, Refused as refusedCheck, Accepts, Rejects}
use Rattle.rules.specs.Holds.{empty_table}
use Rattle.rules.specs.Results.{
  refusal_number,
  reason_number,
  number_of,
  value_or,
  as_table,
  as_marking,
  as_enabled,
  as_set,
  as_closure,
  as_chain,
  as_ticks,
  as_margin,
  as_hold_up,
  as_check,
  as_guarded,
  as_slept,
}
use borrow.Author.Tests.{ne_eqb}

-- the refusal of a number
abbrev refusal_at : ℕ → Refusal
refusal_at n =
    (cond (eqb n 1) Length
    (cond (eqb n 2) SpareBit
    (cond (eqb n 3) Counts
    (cond (eqb n 4) Kind
    (cond (eqb n 5) Ends
    (cond (eqb n 6) Time
    (cond (eqb n 7) Record
    (cond (eqb n 8) NotThere
    (cond (eqb n 10) NotEnabled
    (cond (eqb n 11) StillDue
    (cond (eqb n 12) rejected
    (cond (eqb n 13) NoRemedy
    (cond (eqb n 14) Room
    Step)))))))))))))

at_number : (refusal : Refusal) → refusal_at (refusal_number refusal) ≡ refusal
at_number Length = refl
at_number SpareBit = refl
at_number Counts = refl
at_number Kind = refl
at_number Ends = refl
at_number Time = refl
at_number Record = refl
at_number NotThere = refl
at_number NotEnabled = refl
at_number StillDue = refl
at_number rejected = refl
at_number NoRemedy = refl
at_number Room = refl
at_number Step = refl

pub refusal_once : (one other : Refusal) → refusal_number one ≡ refusal_number other → one ≡ other
refusal_once one other same = sym (at_number one) ∙ ap refusal_at same ∙ at_number other

-- no refusal has the number of what is done
pub refused_number : (refusal : Refusal) → refusal_number refusal ≡ 0 → ⊥
refused_number Length same = cc
refused_number SpareBit same = cc
refused_number Counts same = cc
refused_number Kind same = cc
refused_number Ends same = cc
refused_number Time same = cc
refused_number Record same = cc
refused_number NotThere same = cc
refused_number NotEnabled same = cc
refused_number StillDue same = cc
refused_number rejected same = cc
refused_number NoRemedy same = cc
refused_number Room same = cc
refused_number Step same = cc

module _ {A : Type 0} where
  -- one number, and one value or what stands for it: one result
  pub result_once : (refused : A) (one other : Result A Refusal) → number_of one ≡ number_of other
      → value_or refused one ≡ value_or refused other → one ≡ other
  result_once refused (Ok one) (Ok other) same value = ap Ok value
  result_once refused (Ok one) (Err other) same value = absurd (refused_number other (sym same))
  result_once refused (Err one) (Ok other) same value = absurd (refused_number one same)
  result_once refused (Err one) (Err other) same value = ap Err (refusal_once one other same)

pub table_once : (one other : Result Table Refusal) → as_table one ≡ as_table other → one ≡ other
table_once one other same =
    result_once empty_table one other (ap (λ (a : TableAnswer). a.number) same) (ap (λ (a : TableAnswer). a.table) same)

pub marking_once : (refused : Marking) (one other : Result Marking Refusal) → as_marking refused one ≡ as_marking refused other → one ≡ other
marking_once refused one other same =
    result_once refused one other (ap (λ (a : MarkingAnswer). a.number) same) (ap (λ (a : MarkingAnswer). a.marking) same)

pub enabled_once : (one other : Result Bool Refusal) → as_enabled one ≡ as_enabled other → one ≡ other
enabled_once one other same =
    result_once false one other (ap (λ (a : EnabledAnswer). a.number) same) (ap (λ (a : EnabledAnswer). a.enabled) same)

pub set_once : (one other : Result ℕ Refusal) → as_set one ≡ as_set other → one ≡ other
set_once one other same = result_once 0 one other (ap (λ (a : SetAnswer). a.number) same) (ap (λ (a : SetAnswer). a.set) same)

pub chain_once : (one other : Result ℕ Refusal) → as_chain one ≡ as_chain other → one ≡ other
chain_once one other same = result_once 0 one other (ap (λ (a : ChainAnswer). a.number) same) (ap (λ (a : ChainAnswer). a.count) same)

pub ticks_once : (one other : Result ℕ Refusal) → as_ticks one ≡ as_ticks other → one ≡ other
ticks_once one other same = result_once 0 one other (ap (λ (a : TicksAnswer). a.number) same) (ap (λ (a : TicksAnswer). a.ticks) same)

pub closure_once : (one other : Result Closure Refusal) → as_closure one ≡ as_closure other → one ≡ other
closure_once (Ok one) (Ok other) same =
    ap₂ (λ (set size : ℕ). Ok (record { set = set; size = size })) (ap (λ (a : ClosureAnswer). a.set) same) (ap (λ (a : ClosureAnswer). a.size) same)
closure_once (Ok one) (Err other) same = absurd (refused_number other (sym (ap (λ (a : ClosureAnswer). a.number) same)))
closure_once (Err one) (Ok other) same = absurd (refused_number one (ap (λ (a : ClosureAnswer). a.number) same))
closure_once (Err one) (Err other) same = ap Err (refusal_once one other (ap (λ (a : ClosureAnswer). a.number) same))

-- The result of an answer with cases.
abbrev rest_at : Rest → Option ℤ
rest_at never = None
rest_at (by ticks) = Some ticks

abbrev margin_at : MarginAnswer → Result Margin Refusal
margin_at (refusedMargin number) = Err (refusal_at number)
margin_at NotACondition = Ok notACondition
margin_at (Ignored rest) = Ok (ignored (rest_at rest))
margin_at Never = Ok (counts None)
margin_at (By ticks) = Ok (counts (Some ticks))

at_margin : (result : Result Margin Refusal) → margin_at (as_margin result) ≡ result
at_margin (Ok notACondition) = refl
at_margin (Ok (ignored None)) = refl
at_margin (Ok (ignored (Some ticks))) = refl
at_margin (Ok (counts None)) = refl
at_margin (Ok (counts (Some ticks))) = refl
at_margin (Err refusal) = ap Err (at_number refusal)

pub margin_once : (one other : Result Margin Refusal) → as_margin one ≡ as_margin other → one ≡ other
margin_once one other same = sym (at_margin one) ∙ ap margin_at same ∙ at_margin other

abbrev hold_up_at : HoldUpAnswer → Result HoldUp Refusal
hold_up_at (refusedHoldUp number) = Err (refusal_at number)
hold_up_at Enabled = Ok enabled
hold_up_at (EnabledUnless relation) = Ok (enabledUnless relation)
hold_up_at Excluded = Ok excluded
hold_up_at (Blocked relation) = Ok (blocked relation)

at_hold_up : (result : Result HoldUp Refusal) → hold_up_at (as_hold_up result) ≡ result
at_hold_up (Ok enabled) = refl
at_hold_up (Ok (enabledUnless relation)) = refl
at_hold_up (Ok excluded) = refl
at_hold_up (Ok (blocked relation)) = refl
at_hold_up (Err refusal) = ap Err (at_number refusal)

pub hold_up_once : (one other : Result HoldUp Refusal) → as_hold_up one ≡ as_hold_up other → one ≡ other
hold_up_once one other same = sym (at_hold_up one) ∙ ap hold_up_at same ∙ at_hold_up other

-- the reason of a number
abbrev reason_at : ℕ → Reason
reason_at n = cond (eqb n 1) Unreportable (cond (eqb n 2) Uncausable (cond (eqb n 3) Waiting (cond (eqb n 4) Cyclic (cond (eqb n 5) Reopening Reviving))))

at_reason : (reason : Reason) → reason_at (reason_number reason) ≡ reason
at_reason Unreportable = refl
at_reason Uncausable = refl
at_reason Waiting = refl
at_reason Cyclic = refl
at_reason Reopening = refl
at_reason Reviving = refl

abbrev rejected_at : ℕ → ℕ → Rejection
rejected_at reason place = record { reason = reason_at reason; place = place }

at_rejected : (rejection : Rejection) → rejected_at (reason_number rejection.reason) rejection.place ≡ rejection
at_rejected rejection = ap (λ (reason : Reason). record { reason = reason; place = rejection.place }) (at_reason rejection.reason)

abbrev check_at : CheckAnswer → Result (Unit {0}) CheckError
check_at (refusedCheck number) = Err (Refused (refusal_at number))
check_at Accepts = Ok tt
check_at (Rejects reason place) = Err (Rejected (rejected_at reason place))

at_check : (result : Result (Unit {0}) CheckError) → check_at (as_check result) ≡ result
at_check (Ok tt) = refl
at_check (Err (Refused refusal)) = ap (λ (r : Refusal). Err (Refused r)) (at_number refusal)
at_check (Err (Rejected rejection)) = ap (λ (r : Rejection). Err (Rejected r)) (at_rejected rejection)

pub check_once : (one other : Result (Unit {0}) CheckError) → as_check one ≡ as_check other → one ≡ other
check_once one other same = sym (at_check one) ∙ ap check_at same ∙ at_check other

-- the error of a refused call that makes the check: its number, and its reason and place
abbrev error_at : ℕ → ℕ → ℕ → CheckError
error_at number reason place = cond (eqb reason 0) (Refused (refusal_at number)) (Rejected (rejected_at reason place))

rejected_here : (reason : Reason) (place : ℕ)
    → error_at 12 (reason_number reason) place ≡ Rejected (record { reason = reason; place = place })
rejected_here Unreportable place = refl
rejected_here Uncausable place = refl
rejected_here Waiting place = refl
rejected_here Cyclic place = refl
rejected_here Reopening place = refl
rejected_here Reviving place = refl

abbrev guarded_at : GuardedAnswer → Result Guarded CheckError
guarded_at a =
    cond (eqb a.number 0) (Ok (record { caused = a.caused; count = a.count; marking = a.marking })) (Err (error_at a.number a.reason a.place))

refused_here : {A : Type 0} (done : A) (refusal : Refusal) (reason place : ℕ)
    → cond (eqb (refusal_number refusal) 0) (Ok done) (Err (error_at (refusal_number refusal) reason place)) ≡ Err (error_at (refusal_number refusal) reason place)
refused_here done refusal reason place = rw (ne_eqb _ _ (refused_number refusal)) refl

at_guarded : (refused : Marking) (result : Result Guarded CheckError) → guarded_at (as_guarded refused result) ≡ result
at_guarded refused (Ok guarded) = refl
at_guarded refused (Err (Refused refusal)) =
    refused_here _ refusal 0 0 ∙ ap (λ (r : Refusal). Err (Refused r)) (at_number refusal)
at_guarded refused (Err (Rejected rejection)) = ap Err (rejected_here rejection.reason rejection.place)

pub guarded_once : (refused : Marking) (one other : Result Guarded CheckError) → as_guarded refused one ≡ as_guarded refused other → one ≡ other
guarded_once refused one other same = sym (at_guarded refused one) ∙ ap guarded_at same ∙ at_guarded refused other

abbrev slept_at : SleptAnswer → Result Slept CheckError
slept_at a = cond (eqb a.number 0) (Ok (record { count = a.count; marking = a.marking })) (Err (error_at a.number a.reason a.place))

at_slept : (refused : Marking) (result : Result Slept CheckError) → slept_at (as_slept refused result) ≡ result
at_slept refused (Ok slept) = refl
at_slept refused (Err (Refused refusal)) =
    refused_here _ refusal 0 0 ∙ ap (λ (r : Refusal). Err (Refused r)) (at_number refusal)
at_slept refused (Err (Rejected rejection)) = ap Err (rejected_here rejection.reason rejection.place)

pub slept_once : (refused : Marking) (one other : Result Slept CheckError) → as_slept refused one ≡ as_slept refused other → one ≡ other
slept_once refused one other same = sym (at_slept refused one) ∙ ap slept_at same ∙ at_slept refused other

-- The results of calls in the rules' numbers: a refusal has a number, a result that is no refusal the number 0; and each result as the answer
-- that a definition gives.
use Rattle.std.specs.Prelude.{Bool, false, ℕ, ℤ, Option, Some, None, Result, Ok, Err, replicate}
use Rattle.rules.specs.declared.refusal.Refusal.{Refusal}
use Rattle.rules.specs.declared.refusal.Refusal.TheVariants.{
  Length,
  SpareBit,
  Counts,
  Kind,
  Ends,
  Time,
  Record,
  NotThere,
  NotEnabled,
  StillDue,
  Rejected as rejected,
  NoRemedy,
  Room,
  Step,
}
use Rattle.rules.specs.declared.verdict.Reason.{Reason}
use Rattle.rules.specs.declared.verdict.Reason.TheVariants.{Unreportable, Uncausable, Waiting, Cyclic, Reopening, Reviving}
use Rattle.rules.specs.declared.verdict.Rejection.{Rejection}
use Rattle.rules.specs.declared.verdict.CheckError.{CheckError}
use Rattle.rules.specs.declared.verdict.CheckError.TheVariants.{Refused, Rejected}
use Rattle.rules.specs.declared.answers.Closure.{Closure}
use Rattle.rules.specs.declared.answers.Margin.{Margin}
use Rattle.rules.specs.declared.answers.Margin.TheVariants.{NotACondition as notACondition, Ignored as ignored, Counts as counts}
use Rattle.rules.specs.declared.answers.HoldUp.{HoldUp}
use Rattle.rules.specs.declared.answers.HoldUp.TheVariants.{
  Enabled as enabled,
  EnabledUnless as enabledUnless,
  Excluded as excluded,
  Blocked as blocked,
}
use Rattle.rules.specs.declared.answers.Guarded.{Guarded}
use Rattle.rules.specs.declared.answers.Slept.{Slept}
use Rattle.rules.specs.declared.Table.{Table}
use Rattle.rules.specs.declared.Marking.{Marking}
use Rattle.rules.specs.Answers.{TableAnswer, MarkingAnswer, EnabledAnswer, SetAnswer, ClosureAnswer, ChainAnswer, GuardedAnswer, SleptAnswer, TicksAnswer}
use Rattle.rules.specs.Rest.{Rest, Never as never, By as by}
use Rattle.rules.specs.MarginAnswer.{MarginAnswer, Refused as refusedMargin, NotACondition, Ignored, Never, By}
use Rattle.rules.specs.HoldUpAnswer.{HoldUpAnswer, Refused as refusedHoldUp, Enabled, EnabledUnless, Excluded, Blocked}
use Rattle.rules.specs.CheckAnswer.{CheckAnswer, Refused as refusedCheck, Accepts, Rejects}
use Rattle.rules.specs.Holds.{most_events, empty_table}

abbrev pub refusal_number : Refusal → ℕ
refusal_number Length = 1
refusal_number SpareBit = 2
refusal_number Counts = 3
refusal_number Kind = 4
refusal_number Ends = 5
refusal_number Time = 6
refusal_number Record = 7
refusal_number NotThere = 8
refusal_number NotEnabled = 10
refusal_number StillDue = 11
refusal_number rejected = 12
refusal_number NoRemedy = 13
refusal_number Room = 14
refusal_number Step = 15

abbrev pub reason_number : Reason → ℕ
reason_number Unreportable = 1
reason_number Uncausable = 2
reason_number Waiting = 3
reason_number Cyclic = 4
reason_number Reopening = 5
reason_number Reviving = 6

module _ {A : Type 0} where
  -- the number of a result
  abbrev pub number_of : Result A Refusal → ℕ
  number_of (Ok _) = 0
  number_of (Err refusal) = refusal_number refusal

  -- what a call that is done answers, and what stands for it in a refusal
  abbrev pub value_or : A → Result A Refusal → A
  value_or refused (Ok a) = a
  value_or refused (Err _) = refused

-- a refusal to read a table has an empty one
abbrev pub as_table : Result Table Refusal → TableAnswer
as_table result = record { table = value_or empty_table result; number = number_of result }

-- a refusal has the marking that is named first
abbrev pub as_marking : Marking → Result Marking Refusal → MarkingAnswer
as_marking refused result = record { number = number_of result; marking = value_or refused result }

abbrev pub as_enabled : Result Bool Refusal → EnabledAnswer
as_enabled result = record { number = number_of result; enabled = value_or false result }

abbrev pub as_set : Result ℕ Refusal → SetAnswer
as_set result = record { number = number_of result; set = value_or 0 result }

abbrev pub as_chain : Result ℕ Refusal → ChainAnswer
as_chain result = record { number = number_of result; count = value_or 0 result }

abbrev pub as_ticks : Result ℕ Refusal → TicksAnswer
as_ticks result = record { number = number_of result; ticks = value_or 0 result }

abbrev pub as_closure : Result Closure Refusal → ClosureAnswer
as_closure (Ok closure) = record { number = 0; set = closure.set; size = closure.size }
as_closure (Err refusal) = record { number = refusal_number refusal; set = 0; size = 0 }

-- no margin is 'never'
abbrev pub as_rest : Option ℤ → Rest
as_rest None = never
as_rest (Some ticks) = by ticks

abbrev pub as_margin_of : Margin → MarginAnswer
as_margin_of notACondition = NotACondition
as_margin_of (ignored rest) = Ignored (as_rest rest)
as_margin_of (counts None) = Never
as_margin_of (counts (Some ticks)) = By ticks

abbrev pub as_margin : Result Margin Refusal → MarginAnswer
as_margin (Ok margin) = as_margin_of margin
as_margin (Err refusal) = refusedMargin (refusal_number refusal)

abbrev pub as_hold_up_of : HoldUp → HoldUpAnswer
as_hold_up_of enabled = Enabled
as_hold_up_of (enabledUnless relation) = EnabledUnless relation
as_hold_up_of excluded = Excluded
as_hold_up_of (blocked relation) = Blocked relation

abbrev pub as_hold_up : Result HoldUp Refusal → HoldUpAnswer
as_hold_up (Ok hold_up) = as_hold_up_of hold_up
as_hold_up (Err refusal) = refusedHoldUp (refusal_number refusal)

module _ {A : Type 0} where
  -- the check accepts, or rejects
  abbrev pub as_verdict : Result A Rejection → CheckAnswer
  as_verdict (Ok _) = Accepts
  as_verdict (Err rejection) = Rejects (reason_number rejection.reason) rejection.place

  abbrev pub as_check : Result A CheckError → CheckAnswer
  as_check (Ok _) = Accepts
  as_check (Err (Refused refusal)) = refusedCheck (refusal_number refusal)
  as_check (Err (Rejected rejection)) = Rejects (reason_number rejection.reason) rejection.place

-- a refusal has caused nothing, and has the marking that is named first
abbrev pub refused_guarded : ℕ → ℕ → ℕ → Marking → GuardedAnswer
refused_guarded number reason place refused =
    record { number = number; reason = reason; place = place; caused = replicate most_events 0; count = 0; marking = refused }

abbrev pub as_guarded : Marking → Result Guarded CheckError → GuardedAnswer
as_guarded refused (Ok guarded) =
    record { number = 0; reason = 0; place = 0; caused = guarded.caused; count = guarded.count; marking = guarded.marking }
as_guarded refused (Err (Refused refusal)) = refused_guarded (refusal_number refusal) 0 0 refused
as_guarded refused (Err (Rejected rejection)) = refused_guarded 12 (reason_number rejection.reason) rejection.place refused

abbrev pub refused_slept : ℕ → ℕ → ℕ → Marking → SleptAnswer
refused_slept number reason place refused = record { number = number; reason = reason; place = place; count = 0; marking = refused }

abbrev pub as_slept : Marking → Result Slept CheckError → SleptAnswer
as_slept refused (Ok slept) = record { number = 0; reason = 0; place = 0; count = slept.count; marking = slept.marking }
as_slept refused (Err (Refused refusal)) = refused_slept (refusal_number refusal) 0 0 refused
as_slept refused (Err (Rejected rejection)) = refused_slept 12 (reason_number rejection.reason) rejection.place refused

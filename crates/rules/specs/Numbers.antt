-- Numbers given for refusal. 0 is 'done'; a rule gives its number if it is broken, else the next rule is asked.
-- For each answer that is an enum: the paper's number and values for each of its cases; the cases counted in the paper's order.
use Rattle.std.specs.Prelude.{Bool, true, false, cond, ℕ, zero, suc, eqb, pos}
use Rattle.rules.specs.Rest.{Never as never, By as by}
use Rattle.rules.specs.MarginAnswer.{MarginAnswer, Refused as refusedMargin, NotACondition, Ignored, Never, By}
use Rattle.rules.specs.Answers.{ToldMargin, ToldHoldUp, ToldCheck}
use Rattle.rules.specs.HoldUpAnswer.{HoldUpAnswer, Refused as refusedHoldUp, Enabled, EnabledUnless, Excluded, Blocked}
use Rattle.rules.specs.CheckAnswer.{CheckAnswer, Refused as refusedCheck, Accepts, Rejects}

infix 26 ◌if◌
infixr 24 ◌else◌
-- the number, if the test says so
abbrev pub ◌if◌ : ℕ → Bool → ℕ
number if true = number
number if false = 0

-- the first number, or the second where the first is 'done'
abbrev pub ◌else◌ : ℕ → ℕ → ℕ
zero else next = next
suc number else next = suc number

-- the first number other than 'done' that f gives below n
unfoldable pub first_of : ℕ → (ℕ → ℕ) → ℕ
first_of zero f = 0
first_of (suc k) f = first_of k f else f k

module _ {A : Type 0} where
  -- what is done by a call that is not refused, and what stands for it in a refusal
  abbrev pub done : ℕ → A → A → A
  done number a refused = cond (eqb number 0) a refused

-- margin: 0 not a condition, 1 ignored and else never, 2 never, 3 by age minus time, 4 ignored and else by that; the ticks are 0 in any other
-- case
abbrev pub margin_in_numbers : MarginAnswer → ToldMargin
margin_in_numbers (refusedMargin number) = record { number = number; kind = 0; ticks = pos 0 }
margin_in_numbers NotACondition = record { number = 0; kind = 0; ticks = pos 0 }
margin_in_numbers (Ignored never) = record { number = 0; kind = 1; ticks = pos 0 }
margin_in_numbers (Ignored (by ticks)) = record { number = 0; kind = 4; ticks = ticks }
margin_in_numbers Never = record { number = 0; kind = 2; ticks = pos 0 }
margin_in_numbers (By ticks) = record { number = 0; kind = 3; ticks = ticks }

-- hold-up: 0 enabled, 1 excluded, 2 blocked by a relation, 3 enabled unless the right event of a relation returns; the relation is 0 in any
-- other case
abbrev pub hold_up_in_numbers : HoldUpAnswer → ToldHoldUp
hold_up_in_numbers (refusedHoldUp number) = record { number = number; kind = 0; relation = 0 }
hold_up_in_numbers Enabled = record { number = 0; kind = 0; relation = 0 }
hold_up_in_numbers (EnabledUnless relation) = record { number = 0; kind = 3; relation = relation }
hold_up_in_numbers Excluded = record { number = 0; kind = 1; relation = 0 }
hold_up_in_numbers (Blocked relation) = record { number = 0; kind = 2; relation = relation }

-- the static check: 12 with reason and place where it rejects; reason and place are 0 in any other case
abbrev pub check_in_numbers : CheckAnswer → ToldCheck
check_in_numbers (refusedCheck number) = record { number = number; reason = 0; place = 0 }
check_in_numbers Accepts = record { number = 0; reason = 0; place = 0 }
check_in_numbers (Rejects reason place) = record { number = 12; reason = reason; place = place }

-- their parts
abbrev pub margin_number : MarginAnswer → ℕ
margin_number a = (margin_in_numbers a).number

abbrev pub hold_up_number : HoldUpAnswer → ℕ
hold_up_number a = (hold_up_in_numbers a).number

abbrev pub check_number : CheckAnswer → ℕ
check_number a = (check_in_numbers a).number

abbrev pub check_reason : CheckAnswer → ℕ
check_reason a = (check_in_numbers a).reason

abbrev pub check_place : CheckAnswer → ℕ
check_place a = (check_in_numbers a).place

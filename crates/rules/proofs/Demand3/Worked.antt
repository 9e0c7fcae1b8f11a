-- A history, computed: the shop's table, a leak, three guarded ticks, a plain tick that is refused, and a guarded tick that causes isolate,
-- drain and flush. And the deadline sentence with numbers: the leak gives flush a deadline of 3 ticks, four guarded ticks follow, and what
-- settles the deadline is the execution of flush, with three passes of time before it. And in a firm table a repeated leak. Assumes nothing.
use Rattle.std.specs.Prelude.{◌≡◌, refl, List, [], ◌∷◌, ◌++◌, ℕ, zero, suc, ◌<◌, length, get_or, take}
use Rattle.std.proofs.Common.{◌∙◌, ap, sym, subst, arith}
use Rattle.std.proofs.Math.Seq.{get_or-append_seam, take-append_seam}
use Rattle.rules.specs.declared.Table.{Table}
use Rattle.rules.specs.declared.Marking.{Marking}
use Rattle.rules.specs.declared.Step.{Step}
use Rattle.rules.specs.CheckAnswer.{Accepts}
use Rattle.rules.specs.Counting.{every, some, lowest, how_many, repeated, below_from}
use Rattle.rules.specs.Numbers.{first_of}
use Rattle.rules.specs.EventSet.{has, set_of}
use Rattle.rules.specs.Judge.{time_fits, relation_number, table_number, state_fits, count_fits_lem, record_fits, marking_number, marking_number_for, judged}
use Rattle.rules.specs.Enabled.{stops, blocks, is_enabled}
use Rattle.rules.specs.Effect.{with_deadline, excludes, includes, given, smallest, executed, with_inclusion, effect_at, effect}
use Rattle.rules.specs.Time.{is_due, any_due, due_set, later, time, plain_tick_number}
use Rattle.rules.specs.Happen.{happen_number}
use Rattle.rules.specs.Closure.{busy, follows, widened, widened_fully, closure}
use Rattle.rules.specs.Check.{unreportable, uncausable, waiting, awaited, on_cycle, reopening, reviving, verdict, check}
use Rattle.rules.specs.Guard.{holds_back, needed, ready, order_of, taken, taken_all, executed_of, caused, guarded}
use Rattle.rules.specs.Trace.{step_number, step_done, stepped}
use Rattle.rules.specs.Shop as shop
use Rattle.rules.specs.History.{Act, executes, passes, after, passes_in, then_pass, acts_of, history_of}
use Rattle.rules.specs.Deadline.{Duty, Ends, executed as ends-executed, excluded as ends-excluded, Settles, ended, given_new, Met}
use Rattle.rules.proofs.Laws.Tests.{clash}
use Rattle.rules.proofs.Demand3.Statements.{deadline_kept, deadline_kept_firm}

pub leak_history : history_of shop.P shop.start (shop.leak_then_three ++ (shop.plain ∷ shop.guarded ∷ []))
    ≡ executes 0 ∷ passes ∷ passes ∷ passes ∷ executes 2 ∷ executes 4 ∷ executes 1 ∷ passes ∷ []
unfolding history_of acts_of then_pass every some lowest how_many repeated below_from first_of has set_of stops blocks is_enabled with_deadline excludes
    includes given smallest executed with_inclusion effect_at effect is_due any_due due_set later time plain_tick_number happen_number
    busy follows widened widened_fully closure unreportable uncausable waiting awaited on_cycle reopening reviving verdict holds_back needed ready
    order_of taken taken_all executed_of caused guarded step_number step_done stepped
leak_history = refl

-- a leak and four guarded ticks, and what they come to after the leak
abbrev steps : List Step
steps = shop.leak_then_three ++ (shop.guarded ∷ [])

abbrev after_leak : List Act
after_leak = passes ∷ passes ∷ passes ∷ executes 2 ∷ executes 4 ∷ executes 1 ∷ passes ∷ []

abbrev leaked : Marking
leaked = after shop.P shop.start (executes 0 ∷ [])

accepted : check shop.P shop.start ≡ Accepts
unfolding check judged table_number relation_number time_fits marking_number_for marking_number state_fits count_fits_lem record_fits every some lowest how_many repeated first_of has
    set_of busy follows widened widened_fully closure unreportable uncausable waiting awaited on_cycle reopening reviving verdict
accepted = refl

history_is : history_of shop.P shop.start steps ≡ (executes 0 ∷ []) ++ after_leak
unfolding history_of acts_of then_pass every some lowest how_many repeated below_from first_of has set_of stops blocks is_enabled with_deadline excludes
    includes given smallest executed with_inclusion effect_at effect is_due any_due due_set later time plain_tick_number happen_number
    busy follows widened widened_fully closure unreportable uncausable waiting awaited on_cycle reopening reviving verdict holds_back needed ready
    order_of taken taken_all executed_of caused guarded step_number step_done stepped
history_is = refl

-- after the leak flush is included and is to be done within 3 ticks
flush_duty : Duty leaked 1 3
unfolding after effect effect_at executed with_inclusion with_deadline excludes includes given smallest some below_from
flush_duty = record { included = refl; pending = refl; bounded = refl; within = omega arith }

four_passes : 3 < passes_in after_leak
unfolding passes_in
four_passes = omega arith

-- neither isolate nor drain settles it
isolate_not : Settles shop.P 1 (after shop.P leaked (take 3 after_leak)) 2 → ⊥
unfolding after time later effect effect_at executed with_inclusion with_deadline excludes includes given smallest some below_from
isolate_not (ended (ends-executed e)) = omega (arith, e)
isolate_not (given_new loose h) = clash h refl
isolate_not (ended (ends-excluded h)) = clash refl h

drain_not : Settles shop.P 1 (after shop.P leaked (take 4 after_leak)) 4 → ⊥
unfolding after time later effect effect_at executed with_inclusion with_deadline excludes includes given smallest some below_from
drain_not (ended (ends-executed e)) = omega (arith, e)
drain_not (given_new loose h) = clash h refl
drain_not (ended (ends-excluded h)) = clash refl h

-- 0 for a pass of time, and past the number of the event for an execution
act_number : Act → ℕ
act_number (executes e) = suc e
act_number passes = 0

-- so whatever settles it is flush, after three passes
only_flush : (event n : ℕ) → get_or after_leak n passes ≡ executes event → Settles shop.P 1 (after shop.P leaked (take n after_leak)) event
    → (event ≡ 1) × (passes_in (take n after_leak) ≡ 3)
unfolding act_number passes_in
only_flush event n at settles = go n (ap act_number at) settles
  where
    go : (n : ℕ) → act_number (get_or after_leak n passes) ≡ suc event → Settles shop.P 1 (after shop.P leaked (take n after_leak)) event
        → (event ≡ 1) × (passes_in (take n after_leak) ≡ 3)
    go zero e s = absurd (omega (arith, e))
    go (suc zero) e s = absurd (omega (arith, e))
    go (suc (suc zero)) e s = absurd (omega (arith, e))
    go (suc (suc (suc zero))) e s = absurd (isolate_not (subst (Settles shop.P 1 (after shop.P leaked (take 3 after_leak))) (omega (arith, e)) s))
    go (suc (suc (suc (suc zero)))) e s = absurd (drain_not (subst (Settles shop.P 1 (after shop.P leaked (take 4 after_leak))) (omega (arith, e)) s))
    go (suc (suc (suc (suc (suc zero))))) e s = (omega (arith, e), refl)
    go (suc (suc (suc (suc (suc (suc zero)))))) e s = absurd (omega (arith, e))
    go (suc (suc (suc (suc (suc (suc (suc n))))))) e s = absurd (omega (arith, e))

-- The deadline sentence, of a leak and four guarded ticks: flush, which is to be done within 3 ticks after the leak, is met ..
pub flush_met : Met shop.P (Settles shop.P 1) (after shop.P shop.start (executes 0 ∷ [])) 3
    (passes ∷ passes ∷ passes ∷ executes 2 ∷ executes 4 ∷ executes 1 ∷ passes ∷ [])
flush_met = deadline_kept shop.P shop.start accepted steps (executes 0 ∷ []) after_leak history_is 1 3 (omega arith) flush_duty four_passes

-- .. by the execution of flush, with three passes of time before it.
pub flush_settles : (flush_met.event ≡ 1) × (passes_in flush_met.before ≡ 3)
flush_settles =
    let before = flush_met.before in
    let first : take (length before) after_leak ≡ before = ap (take (length before)) flush_met.among ∙ take-append_seam before _ in
    let at : get_or after_leak (length before) passes ≡ executes flush_met.event =
    ap (λ (l : List Act). get_or l (length before) passes) flush_met.among ∙ get_or-append_seam before _ _ passes in
    let found = only_flush flush_met.event (length before) at
    (subst (λ (l : List Act). Settles shop.P 1 (after shop.P leaked l) flush_met.event) (sym first) flush_met.settles) in
    (found.0, ap passes_in (sym first) ∙ found.1)

-- In a firm table: a leak, two guarded ticks and a leak again leave flush with one tick; two guarded ticks follow
abbrev firm_p : Table
firm_p = shop.firmly shop.P

abbrev firm_steps : List Step
firm_steps = shop.leak_twice ++ (shop.guarded ∷ shop.guarded ∷ [])

abbrev until_repeat : List Act
until_repeat = executes 0 ∷ passes ∷ passes ∷ executes 0 ∷ []

abbrev after_repeat : List Act
after_repeat = passes ∷ executes 2 ∷ executes 4 ∷ executes 1 ∷ passes ∷ []

firm_accepted : check firm_p shop.start ≡ Accepts
unfolding check judged table_number relation_number time_fits marking_number_for marking_number state_fits count_fits_lem record_fits every some lowest how_many repeated
    first_of has set_of busy follows widened widened_fully closure unreportable uncausable waiting awaited on_cycle reopening reviving verdict
firm_accepted = refl

firm_history : history_of firm_p shop.start firm_steps ≡ until_repeat ++ after_repeat
unfolding history_of acts_of then_pass every some lowest how_many repeated below_from first_of has set_of stops blocks is_enabled with_deadline excludes
    includes given smallest executed with_inclusion effect_at effect is_due any_due due_set later time plain_tick_number happen_number
    busy follows widened widened_fully closure unreportable uncausable waiting awaited on_cycle reopening reviving verdict holds_back needed ready
    order_of taken taken_all executed_of caused guarded step_number step_done stepped
firm_history = refl

firm_duty : Duty (after firm_p shop.start until_repeat) 1 1
unfolding after time later effect effect_at executed with_inclusion with_deadline excludes includes given smallest some below_from
firm_duty = record { included = refl; pending = refl; bounded = refl; within = omega arith }

two_passes : 1 < passes_in after_repeat
unfolding passes_in
two_passes = omega arith

-- .. of which flush is executed, or excluded, before the second passes
pub firm_flush_met : Met firm_p (Ends firm_p 1) (after firm_p shop.start (executes 0 ∷ passes ∷ passes ∷ executes 0 ∷ [])) 1
    (passes ∷ executes 2 ∷ executes 4 ∷ executes 1 ∷ passes ∷ [])
firm_flush_met =
    deadline_kept_firm firm_p shop.start firm_accepted refl firm_steps until_repeat after_repeat firm_history 1 1 (omega arith) firm_duty two_passes

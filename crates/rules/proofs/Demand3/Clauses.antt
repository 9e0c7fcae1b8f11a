-- Each clause of the check is needed: for each reason a small table and marking that this reason alone rejects, and on which a statement of
-- demand 3 fails. What the guarded tick would do there is computed without asking the check. By one statement over a table of cases.
-- Assumes nothing.
use Rattle.std.specs.Prelude.{◌≡◌, refl, Bool, true, false, List, [], ◌∷◌, map, ℕ, eqb}
use Rattle.rules.specs.declared.Table.{Table}
use Rattle.rules.specs.declared.Marking.{Marking}
use Rattle.rules.specs.declared.Record.{Record}
use Rattle.rules.specs.declared.Step.{Step}
use Rattle.rules.specs.CheckAnswer.{CheckAnswer, Rejects}
use Rattle.rules.specs.Counting.{every, some, lowest, how_many, repeated, below_from}
use Rattle.rules.specs.Numbers.{first_of}
use Rattle.rules.specs.EventSet.{has, set_of}
use Rattle.rules.specs.Judge.{time_fits, relation_number, table_number, state_fits, count_fits_lem, record_fits, marking_number, marking_number_for, judged}
use Rattle.rules.specs.Enabled.{stops, blocks, is_enabled}
use Rattle.rules.specs.Effect.{with_deadline, excludes, includes, given, smallest, executed, with_inclusion, effect_at, effect}
use Rattle.rules.specs.Time.{is_due, any_due, due_set, later, time, plain_tick_number}
use Rattle.rules.specs.Happen.{happen_number, happen}
use Rattle.rules.specs.Closure.{busy, follows, widened, widened_fully, closure}
use Rattle.rules.specs.Check.{unreportable, uncausable, waiting, awaited, on_cycle, reopening, reviving, verdict, check}
use Rattle.rules.specs.Guard.{holds_back, needed, ready, order_of, order, taken, taken_all, executed_of, caused, guarded}
use Rattle.rules.specs.Remedy.{in_turn, effects}
use Rattle.rules.specs.Trace.{step_number, step_done, stepped, end_of}
use Rattle.rules.specs.Shop as shop

-- which of the six reasons apply somewhere
unfoldable pub reasons : Table → Marking → List Bool
reasons t m =
    let closed = closure t m in
    some t.events (unreportable t m)
    ∷ some t.events (uncausable t closed)
    ∷ some t.count (waiting t closed)
    ∷ some t.events (on_cycle t closed)
    ∷ some t.count (reopening t closed)
    ∷ some t.count (reviving t closed)
    ∷ []

-- what goes wrong: the number that an event gets where it happens after some steps; or what a guarded tick would take and cause, whether each caused
-- event is causable and enabled in its turn, and whether an event is due when time then passes
pub data Wrong : Type 0 where
  happened : ℕ → Wrong
  tick : (taken caused : List ℕ) (in_turn due : Bool) → Wrong

pub data Question : Type 0 where
  happen_after : List Step → ℕ → Question
  guarded_tick : Question

-- what the check says, which reasons apply, and what goes wrong
pub record Shown : Type 0 where
  pub checked : CheckAnswer
  pub applying : List Bool
  pub wrong : Wrong

pub record Case : Type 0 where
  pub table : Table
  pub marking : Marking
  pub asked : Question
  pub told : Shown

unfoldable pub goes : Table → Marking → Question → Wrong
goes t m (happen_after steps e) = happened (happen t (end_of t m steps) e).number
goes t m guarded_tick = tick (order t m) (caused t m) (in_turn t m (caused t m)) (any_due (effects t m (caused t m)))

unfoldable pub shown : Case → Shown
shown c = record {
  checked = check c.table c.marking;
  applying = reasons c.table c.marking;
  wrong = goes c.table c.marking c.asked;
}

-- a case that reason n alone rejects, at a place
unfoldable pub rejected_by : ℕ → ℕ → Table → Marking → Question → Wrong → Case
rejected_by n place t m q wrong = record {
  table = t;
  marking = m;
  asked = q;
  told = record { checked = Rejects n place; applying = map (eqb n) (1 ∷ 2 ∷ 3 ∷ 4 ∷ 5 ∷ 6 ∷ []); wrong = wrong };
}

-- due; excluded with a deadline that has run out
abbrev pub due : Record
due = shop.pending_within true 0

abbrev pub hidden : Record
hidden = shop.pending_within false 0

unfoldable pub cases : List Case
cases =
    -- an uncontrollable event is left of a condition: where it happens it is answered 10
    rejected_by 1 0 (shop.table 2 2 3 (shop.condition 0 1 0 ∷ [])) (shop.marking (shop.idle ∷ shop.idle ∷ [])) (happen_after [] 0) (happened 10)
    -- it is right of an exclusion: after the excluding event it is answered 10
    ∷ rejected_by 1 0 (shop.table 2 2 3 (shop.excludes 1 0 ∷ [])) (shop.marking (shop.idle ∷ shop.idle ∷ [])) (happen_after (shop.happens 1 ∷ []) 0) (happened 10)
    -- it is excluded in the marking
    ∷ rejected_by 1 0 (shop.table 2 2 3 []) (shop.marking (shop.excluded ∷ shop.idle ∷ [])) (happen_after [] 0) (happened 10)
    -- a due event is not causable: it would be caused all the same
    ∷ rejected_by 2 0 (shop.table 1 1 0 []) (shop.marking (due ∷ [])) guarded_tick (tick (0 ∷ []) (0 ∷ []) false false)
    -- a condition asks for 4 ticks, and 1 has passed: the due event would be executed while it is not enabled
    ∷ rejected_by 3 0 (shop.table 2 3 3 (shop.condition 1 0 4 ∷ [])) (shop.marking (shop.happened 1 ∷ due ∷ [])) guarded_tick (tick (1 ∷ []) (1 ∷ []) false false)
    -- two events wait for each other: neither is ready, none is taken, and a due one is left when time passes
    ∷ rejected_by 4 0 (shop.table 2 3 3 (shop.condition 0 1 0 ∷ shop.condition 1 0 0 ∷ [])) (shop.marking (due ∷ shop.idle ∷ [])) guarded_tick
    (tick [] [] true true)
    -- a milestone responds to itself: it is pending again when the event that waits for it is executed
    ∷ rejected_by 5 0 (shop.table 2 3 3 (shop.response 0 0 1 ∷ shop.milestone 1 0 ∷ [])) (shop.marking (due ∷ due ∷ [])) guarded_tick
    (tick (0 ∷ 1 ∷ []) (0 ∷ 1 ∷ []) false false)
    -- the due event includes one whose deadline ran out while it was excluded: that one is due when time passes
    ∷ rejected_by 6 0 (shop.table 2 3 3 (shop.includes 1 0 ∷ [])) (shop.marking (hidden ∷ due ∷ [])) guarded_tick (tick (1 ∷ []) (1 ∷ []) true true)
    ∷ []

-- each is rejected by its reason and by no other, and goes wrong as told
pub each_clause_needed : map shown cases ≡ map (λ c. c.told) cases
unfolding cases rejected_by shown reasons goes every some lowest how_many repeated below_from first_of has set_of time_fits relation_number table_number
    state_fits count_fits_lem record_fits marking_number marking_number_for judged stops blocks is_enabled with_deadline excludes includes given smallest executed
    with_inclusion effect_at effect is_due any_due due_set later time plain_tick_number happen_number happen busy follows widened widened_fully closure
    unreportable uncausable waiting awaited on_cycle reopening reviving verdict check holds_back needed ready order_of taken taken_all executed_of
    caused guarded in_turn effects step_number step_done stepped end_of
each_clause_needed = refl

-- The tick of what was read, where there is room for what it causes.
use Rattle.std.specs.Prelude.{List, ◌++◌, ℕ, length, drop}
use Rattle.std.proofs.Common.{◌∙◌, ap, arith}
use Rattle.duty.specs.Laws.Checked.{done_put, error_left}
use Rattle.duty.specs.Laws.Guarded.{ticked_number, ticked_told, caused_few, caused_room, ticked_fills, ticked_count, ticked_caused}
use Rattle.duty.proofs.duty_guarded_tick.Goals as goal
use Rattle.duty.proofs.duty_guarded_tick.Goals.{in-Ok, in_default}

pub shared_ref_as_front-put : goal.shared_ref_as_front-put
shared_ref_as_front-put c = let tick = c.guarded_tick-answer.ensures in caused_few _ _ _ _ tick.early tick.ticked _ c.in-Ok.is

pub put-requires : goal.put-requires
put-requires c =
    let tick = c.guarded_tick-answer.ensures in
    omega (
      arith,
      ap length (ticked_caused _ _ _ _ tick.early tick.ticked _ c.in-Ok.is),
      ticked_count _ _ _ _ tick.early tick.ticked _ c.in-Ok.is,
      caused_room _ _ _ _ tick.early tick.ticked _ c.in-Ok.is,
    )

pub put-requires-in-Ok : goal.put-requires-in-Ok
put-requires-in-Ok c = let tick = c.guarded_tick-answer.ensures in ticked_fills _ _ _ _ tick.early tick.ticked _ c.in-Ok.is

pub returns-clause-number : goal.returns-clause-number
returns-clause-number c =
    let tick = c.guarded_tick-answer.ensures in c.tell.ensures.number ∙ ticked_number _ _ _ _ tick.early tick.ticked

pub returns-clause-caused : goal.returns-clause-caused
returns-clause-caused c =
    let tick = c.guarded_tick-answer.ensures in
    elim c.match-answer.branch [
      | in-Ok w ↦
          w.caused-is
          ∙ w.put.ensures
          ∙ ap (λ (l : List ℕ). l ++ drop (length l) c.args.caused.now) (ticked_caused _ _ _ _ tick.early tick.ticked _ w.in-Ok.is)
          ∙ done_put c.tell.ensures.number w.in-Ok.is _ _
      | in_default w ↦ w.caused-is ∙ error_left c.tell.ensures.number w.in_default.is _ _
    ]

pub returns-clause-count : goal.returns-clause-count
returns-clause-count c =
    let tick = c.guarded_tick-answer.ensures in
    elim c.match-answer.branch [
      | in-Ok w ↦
          w.count-is ∙ ticked_count _ _ _ _ tick.early tick.ticked _ w.in-Ok.is ∙ done_put c.tell.ensures.number w.in-Ok.is _ _
      | in_default w ↦ w.count-is ∙ error_left c.tell.ensures.number w.in_default.is _ _
    ]

pub returns-clause-reason : goal.returns-clause-reason
returns-clause-reason c =
    let tick = c.guarded_tick-answer.ensures in
    c.tell.ensures.reason ∙ (ticked_told _ _ _ _ tick.early tick.ticked c.args.reason.now c.args.place.now).0

pub returns-clause-place : goal.returns-clause-place
returns-clause-place c =
    let tick = c.guarded_tick-answer.ensures in
    c.tell.ensures.place ∙ (ticked_told _ _ _ _ tick.early tick.ticked c.args.reason.now c.args.place.now).1

-- An event that exists, of images that were read.
use Rattle.std.proofs.Common.{◌≡◌, ◌<◌, arith}
use Rattle.std.proofs.lemmas.Grind.{common_steps}
use Rattle.rules.specs.Images.{table_of, marking_of, images_number}
use Rattle.duty.specs.Laws.Told.{event_of_read}
use Rattle.duty.proofs.asking.record.Goals as goal

pub bounds-m-event : goal.bounds-m-event
unfolding images_number table_of
bounds-m-event c =
    let read : images_number c.args.table.now c.args.marking.now ≡ 0 = grind (arith, common_steps) in
    event_of_read _ _ read _ (grind (arith, common_steps))

pub offset_bounds-m-event : goal.offset_bounds-m-event
unfolding images_number table_of
offset_bounds-m-event c =
    let read : images_number c.args.table.now c.args.marking.now ≡ 0 = grind (arith, common_steps) in
    let there : c.args.event < 64 = event_of_read _ _ read _ (grind (arith, common_steps)) in
    omega arith

pub returns-in_err-t-clause-number : goal.returns-in_err-t-clause-number
unfolding images_number
returns-in_err-t-clause-number c = grind (arith, common_steps)

pub returns-in_err-m-clause-number : goal.returns-in_err-m-clause-number
unfolding images_number table_of
returns-in_err-m-clause-number c = grind (arith, common_steps)

pub returns-in_err-exists-clause-number : goal.returns-in_err-exists-clause-number
unfolding images_number table_of
returns-in_err-exists-clause-number c = grind (arith, common_steps)

pub returns-clause-number : goal.returns-clause-number
unfolding images_number table_of
returns-clause-number c = grind (arith, common_steps)

pub returns-clause-fields : goal.returns-clause-fields
unfolding table_of marking_of
returns-clause-fields c = grind (arith, common_steps)

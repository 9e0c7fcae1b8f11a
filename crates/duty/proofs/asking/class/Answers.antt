-- An event that exists, of a table that was read: its byte stands in the image.
use Rattle.std.proofs.Common.{◌≡◌, ◌<◌, arith, rules}
use Rattle.std.specs.Prelude.{Ok}
use Rattle.std.proofs.lemmas.Grind.{common_steps}
use Rattle.rules.specs.Results.{as_table}
use Rattle.rules.specs.Image.{read_table}
use Rattle.rules.specs.Images.{table_of}
use Rattle.rules.specs.Building.{class_told_number}
use Rattle.duty.specs.Laws.Told.{event_there, class_there, class_told}
use Rattle.duty.proofs.asking.class.Goals as goal

pub returns-in_err-t-clause-number : goal.returns-in_err-t-clause-number
unfolding class_told_number table_of
returns-in_err-t-clause-number c = grind (arith, common_steps)

pub returns-in_err-exists-clause-number : goal.returns-in_err-exists-clause-number
unfolding class_told_number table_of
returns-in_err-exists-clause-number c = grind (arith, common_steps)

pub overflow_add-result : goal.overflow_add-result
overflow_add-result c =
    let read : as_table (Ok c.in_ok-t.t) ≡ read_table c.args.table.now = grind (arith, common_steps) in
    let there : c.args.event < 64 = event_there _ _ read _ (grind (arith, common_steps)) in
    omega arith

pub bounds-table-event : goal.bounds-table-event
bounds-table-event c =
    let read : as_table (Ok c.in_ok-t.t) ≡ read_table c.args.table.now = grind (arith, common_steps) in
    class_there _ _ read _ (grind (arith, common_steps))

pub returns-clause-number : goal.returns-clause-number
unfolding class_told_number table_of
returns-clause-number c = grind (arith, common_steps)

pub returns-clause-byte : goal.returns-clause-byte
returns-clause-byte c =
    let read : as_table (Ok c.in_ok-t.t) ≡ read_table c.args.table.now = grind (arith, common_steps) in
    class_told _ _ read _ (grind (arith, common_steps)) (search rules)

-- A relation that exists, of a table that was read.
use Rattle.std.proofs.Common.{◌≡◌, ◌<◌, arith}
use Rattle.std.specs.Prelude.{Ok}
use Rattle.std.proofs.lemmas.Grind.{common_steps}
use Rattle.rules.specs.Results.{as_table}
use Rattle.rules.specs.Image.{read_table}
use Rattle.rules.specs.Images.{table_of}
use Rattle.duty.specs.Laws.Told.{relation_there}
use Rattle.duty.proofs.asking.relation.Goals as goal

pub returns-in_err-exists-clause-number : goal.returns-in_err-exists-clause-number
unfolding table_of
returns-in_err-exists-clause-number c = grind (arith, common_steps)

there : goal.bounds-t-relation
there c =
    let read : as_table (Ok c.in_ok-t.t) ≡ read_table c.args.table.now = grind (arith, common_steps) in
    relation_there _ _ read _ (grind (arith, common_steps))

pub bounds-t-relation : goal.bounds-t-relation
bounds-t-relation = there

pub offset_bounds-t-relation : goal.offset_bounds-t-relation
offset_bounds-t-relation c =
    let read : as_table (Ok c.in_ok-t.t) ≡ read_table c.args.table.now = grind (arith, common_steps) in
    let there : c.args.relation < 256 = relation_there _ _ read _ (grind (arith, common_steps)) in
    omega arith

pub returns-clause-number : goal.returns-clause-number
unfolding table_of
returns-clause-number c = grind (arith, common_steps)

pub returns-clause-numbers : goal.returns-clause-numbers
unfolding table_of
returns-clause-numbers c = grind (arith, common_steps)

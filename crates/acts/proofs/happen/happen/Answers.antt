-- An event that is not there; or one that is executed if it is enabled.
use Rattle.std.proofs.Common.{◌∙◌, refl}
use Rattle.acts.specs.Laws.Happen.{head_exists, happen_missing, happen_acted}
use Rattle.acts.proofs.happen.happen.Goals as goal

pub returns-then-table-e-clause-number : goal.returns-then-table-e-clause-number
returns-then-table-e-clause-number c = λ t tail m of stands. happen_missing _ t of.rows.headed m c.args.e c.if-table-e.true

pub returns-clause-number : goal.returns-clause-number
returns-clause-number c = λ t tail m of stands.
    let exists = head_exists _ t of.rows.headed c.args.e c.if-table-e.false in
    c.happen.ensures.number t tail m (c.row.ensures t of) exists stands ∙ happen_acted _ t of.rows.headed m c.args.e c.if-table-e.false refl

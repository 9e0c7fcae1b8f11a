-- The table's part, and what follows it.
use Rattle.std.proofs.Common.{rules, refl, subst, List, ℕ}
use Rattle.rules.proofs.Laws.Results.{refused_number}
use Rattle.engine.specs.Heard.{Heard}
use Rattle.engine.specs.Laws.Heard.{table_refused, table_read, few_read, rest_there}
use Rattle.engine.specs.Laws.Hearing.{heard_refused}
use Rattle.engine.proofs.hearing.heard.Goals as goal

pub returns-in_err-t : goal.returns-in_err-t
returns-in_err-t c =
    let refusal = c.in_err-t.field-0.0 in
    heard_refused _ _ _ refusal (search rules)
    (table_refused c.args.input.now c.args.beyond c.requires.enough c.table_part-size.result c.table_part-size.ensures _ c.in_err-t.ensures (refused_number refusal))
    refl

pub heard_marking-requires-clause-few : goal.heard_marking-requires-clause-few
heard_marking-requires-clause-few c =
    few_read c.args.input.now c.args.beyond c.requires.enough c.table_part-size.result c.table_part-size.ensures _ c.in_ok-t.ensures refl

pub heard_marking-requires-clause-enough : goal.heard_marking-requires-clause-enough
heard_marking-requires-clause-enough c =
    rest_there c.args.input.now c.args.beyond c.requires.enough c.table_part-size.result c.table_part-size.ensures _ c.in_ok-t.ensures refl

pub returns : goal.returns
returns c =
    let bytes = table_read c.args.input.now c.args.beyond c.requires.enough c.table_part-size.result c.table_part-size.ensures _ c.in_ok-t.ensures refl in
    subst (λ (l : List ℕ). Heard l c.args.output.now c.heard_marking.result c.heard_marking.new.output) bytes c.heard_marking.ensures

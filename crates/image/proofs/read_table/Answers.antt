-- `image::read_table` meets its contract: the header, then the classes, then the relations.
use Rattle.std.proofs.Common.{◌≡◌, subst, arith}
use Rattle.std.proofs.lemmas.Grind.{common_steps}
use Rattle.std.specs.Prelude.{IfOk}
use Rattle.rules.specs.declared.Table.{Table}
use Rattle.rules.proofs.Laws.Results.{refused_number}
use Rattle.image.specs.Laws.Answers.{table_refused, table_told}
use Rattle.image.specs.Laws.Tables.{header_refused, classes_refused, relations_told, table_whole}
use Rattle.image.proofs.read_table.Goals as goal

pub returns-in_err-header : goal.returns-in_err-header
returns-in_err-header c =
    let image = c.args.image.now in
    let refusal = c.in_err-header.field-0.0 in
    let refused = table_refused image refusal (header_refused image c.in_err-header.ensures.number (refused_number refusal)) in
    grind (arith, common_steps, refused)

pub returns-in_err-classes : goal.returns-in_err-classes
returns-in_err-classes c =
    let image = c.args.image.now in
    let header = c.in_ok-header in
    let refusal = c.in_err-classes.field-0.0 in
    let number =
    classes_refused image header.header header.ensures.fields header.ensures.number c.in_err-classes.ensures.number (refused_number refusal) in
    let refused = table_refused image refusal number in
    grind (arith, common_steps, refused)

pub returns : goal.returns
returns c =
    let image = c.args.image.now in
    let header = c.in_ok-header in
    let said = header.ensures.fields in
    let read = header.ensures.number in
    let classes = c.in_ok-classes.ensures in
    let result = c.table_in.result in
    table_told image result (relations_told image header.header said read classes.number c.table_in.ensures.number)
    (subst (λ (whole : Table). IfOk result (λ t. t ≡ whole)) (table_whole image header.header said read classes.sets) c.table_in.ensures.table)

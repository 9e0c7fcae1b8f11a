-- `image::header::Header::of` meets its contract: each return is one way that reading the header ends, in the definition's order.
use Rattle.std.proofs.Common.{arith, sym, ◌∙◌}
use Rattle.std.proofs.lemmas.Grind.{common_steps}
use Rattle.rules.proofs.Laws.Results.{refused_number}
use Rattle.image.specs.Laws.Tables.{spare_refused, counts_refused, length_refused, header_done, header_said}
use Rattle.image.proofs.header.Header.of.Goals as goal

pub returns-then-w-ne0-clause-number : goal.returns-then-w-ne0-clause-number
returns-then-w-ne0-clause-number c = spare_refused _ c.if-image-lt4.false c.word-w.ensures c.if-w-ne0.true

pub returns-in_err-counts-clause-number : goal.returns-in_err-counts-clause-number
returns-in_err-counts-clause-number c =
    let number =
    counts_refused _ c.if-image-lt4.false c.word-w.ensures c.if-w-ne0.false c.in_err-counts.ensures (refused_number c.in_err-counts.field-0.0) in
    grind (arith, common_steps, number)

pub returns-then-image-length-clause-number : goal.returns-then-image-length-clause-number
returns-then-image-length-clause-number c =
    length_refused _ c.if-image-lt4.false c.word-w.ensures c.if-w-ne0.false c.in_ok-counts.ensures (λ z. c.if-image-length.true (z ∙ sym c.length.ensures))

pub returns-clause-number : goal.returns-clause-number
returns-clause-number c =
    header_done _ c.if-image-lt4.false c.word-w.ensures c.if-w-ne0.false c.in_ok-counts.ensures (c.if-image-length.false ∙ c.length.ensures)

pub returns-clause-fields : goal.returns-clause-fields
returns-clause-fields c =
    header_said _ c.if-image-lt4.false c.word-w.ensures c.if-w-ne0.false c.in_ok-counts.ensures (c.if-image-length.false ∙ c.length.ensures)

-- `image::table::table_in` meets its contract: after k turns the first k relations are read, none of them gives a number, and the places past
-- them are empty.
use Rattle.std.proofs.Common.{◌≡◌, refl, sym, ◌∙◌, arith}
use Rattle.std.proofs.lemmas.Grind.{common_steps}
use Rattle.rules.specs.Holds.{most_relations, empty_relation}
use Rattle.rules.specs.Image.{relation_at, relation_bit, relation_image_number}
use Rattle.rules.proofs.Laws.Counting.{filled_none, filled_more}
use Rattle.rules.proofs.Laws.Numbers.{first_none, first_more}
use Rattle.rules.proofs.Laws.Results.{refused_number}
use Rattle.image.specs.Laws.Parts.{relation_read, relation_refused, relation_judged}
use Rattle.image.specs.Laws.Searched.{refused_next}
use Rattle.image.proofs.table.table_in.Goals as goal

pub loop-k-init : goal.loop-k-init
loop-k-init c = record { filled = filled_none _ empty_relation most_relations; clear = first_none _ }

pub returns-then-w-ne0-clause-number : goal.returns-then-w-ne0-clause-number
returns-then-w-ne0-clause-number c =
    let image = c.args.image.now in
    let n = c.args.header.events in
    let k = c.loop-k.k in
    refused_next (λ k. relation_image_number image n (relation_bit n k)) c.args.header.count k c.loop-k-test.true c.loop-k.invariant.clear
    (relation_refused image n k (omega arith) c.word-w.ensures c.if-w-ne0.true) (λ z. omega (arith, z))

pub returns-in_err-relation-clause-number : goal.returns-in_err-relation-clause-number
returns-in_err-relation-clause-number c =
    let image = c.args.image.now in
    let n = c.args.header.events in
    let k = c.loop-k.k in
    let first =
    refused_next (λ k. relation_image_number image n (relation_bit n k)) c.args.header.count k c.loop-k-test.true c.loop-k.invariant.clear
    (relation_judged image n k (omega arith) c.word-w.ensures c.if-w-ne0.false c.relation_of-relation.ensures c.in_err-relation.ensures)
    (refused_number c.in_err-relation.field-0.0) in
    grind (arith, common_steps, first)

pub loop-k-preserved : goal.loop-k-preserved
loop-k-preserved c =
    let image = c.args.image.now in
    let n = c.args.header.events in
    let k = c.loop-k.k in
    let read = c.relation_of-relation.ensures ∙ relation_read image n k (omega arith) c.word-w.ensures in record {
      filled = rw (c.loop-k.invariant.filled, read) (filled_more (λ k. relation_at image (relation_bit n k)) empty_relation most_relations k (omega arith));
      clear = first_more (λ k. relation_image_number image n (relation_bit n k)) k c.loop-k.invariant.clear
          (sym (relation_judged image n k (omega arith) c.word-w.ensures c.if-w-ne0.false c.relation_of-relation.ensures c.in_ok-relation.ensures));
    }

pub returns-clause-number : goal.returns-clause-number
returns-clause-number c =
    let all : c.loop-k.k ≡ c.args.header.count = omega arith in
    sym (rw all at c.loop-k.invariant.clear)

pub returns-clause-table : goal.returns-clause-table
returns-clause-table c =
    let all : c.loop-k.k ≡ c.args.header.count = omega arith in
    rw (c.loop-k.invariant.filled, all) refl

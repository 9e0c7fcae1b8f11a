-- `image::marking::records_in` meets its contract: after e turns the first e records are read, none of them gives a number, and the places
-- past them are empty.
use Rattle.std.proofs.Common.{sym, ap, ◌∙◌, arith, ◌*◌}
use Rattle.std.proofs.lemmas.Grind.{common_steps}
use Rattle.rules.specs.Holds.{most_events, empty_record}
use Rattle.rules.specs.Image.{record_bytes, record_at, record_bit}
use Rattle.rules.specs.Judge.{record_number}
use Rattle.rules.proofs.Laws.Counting.{filled_none, filled_more}
use Rattle.rules.proofs.Laws.Numbers.{first_none, first_more}
use Rattle.rules.proofs.Laws.Results.{refused_number}
use Rattle.image.specs.Laws.Packed.{record_of_part}
use Rattle.image.specs.Laws.Searched.{refused_next}
use Rattle.image.proofs.marking.records_in.Goals as goal

pub loop-e-init : goal.loop-e-init
loop-e-init c = record { filled = filled_none _ empty_record most_events; clear = first_none _ }

pub returns-in_err-record-clause-number : goal.returns-in_err-record-clause-number
returns-in_err-record-clause-number c =
    let image = c.args.image.now in
    let read = c.record_from-r.ensures ∙ record_of_part image (record_bytes * c.loop-e.e) in
    let first =
    refused_next (λ e. record_number (record_at image (record_bit e))) c.args.events c.loop-e.e c.loop-e-test.true c.loop-e.invariant.clear
    (c.in_err-record.ensures ∙ ap record_number read) (refused_number c.in_err-record.field-0.0) in
    grind (arith, common_steps, first)

pub loop-e-preserved : goal.loop-e-preserved
loop-e-preserved c =
    let image = c.args.image.now in
    let e = c.loop-e.e in
    let read = c.record_from-r.ensures ∙ record_of_part image (record_bytes * e) in record {
      filled = rw (c.loop-e.invariant.filled, read) (filled_more (λ e. record_at image (record_bit e)) empty_record most_events e (omega arith));
      clear = first_more (λ e. record_number (record_at image (record_bit e))) e c.loop-e.invariant.clear
          (sym (c.in_ok-record.ensures ∙ ap record_number read));
    }

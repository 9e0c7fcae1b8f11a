-- `image::marking::put_records` meets its contract: after e turns the first e records stand in the buffer, and the rest is as it was.
use Rattle.std.proofs.Common.{◌≡◌, sym, ap, ◌∙◌, arith, zero-add, get_or-take, ◌*◌}
use Rattle.rules.specs.Holds.{empty_record}
use Rattle.rules.specs.Image.{record_bytes, record_image}
use Rattle.rules.specs.Judge.{record_number}
use Rattle.rules.proofs.Laws.Pieces.{standing_none, standing_more}
use Rattle.rules.proofs.Laws.Written.{records_sized}
use Rattle.image.specs.Laws.Parts.{events_few, record_done}
use Rattle.image.specs.Laws.Slices.{put_from_to, length_from_to}
use Rattle.image.proofs.marking.put_records.Goals as goal

pub shared_ref_as_front-r-items : goal.shared_ref_as_front-r-items
shared_ref_as_front-r-items c = events_few c.args.m.now c.requires.0

pub loop-e-init : goal.loop-e-init
loop-e-init c = standing_none (records_sized c.args.m.now) _ 0

pub put_record-requires : goal.put_record-requires
put_record-requires c =
    let m = c.args.m.now in
    let e = c.loop-e.e in (
      ap record_number (get_or-take m.events m.records e empty_record (omega arith)) ∙ record_done m c.requires.0 e (omega arith),
      length_from_to (record_bytes * e) record_bytes c.loop-e.buffer (omega (arith, c.loop-e.auto.buffer)),
    )

pub loop-e-preserved : goal.loop-e-preserved
loop-e-preserved c =
    let m = c.args.m.now in
    let e = c.loop-e.e in
    let place = sym (zero-add (record_bytes * e)) in
    let piece = c.put_record.ensures ∙ ap record_image (get_or-take m.events m.records e empty_record (omega arith)) in
    standing_more (records_sized m) c.args.buffer.now 0 _ e (omega arith) place c.loop-e.invariant piece
    (put_from_to (record_bytes * e) record_bytes c.loop-e.buffer c.put_record.new.bytes)

pub returns : goal.returns
returns c =
    let events = c.args.m.now.events in
    let all : c.loop-e.e ≡ events = omega arith in
    c.loop-e.invariant ∙ rw (all, zero-add (record_bytes * events))

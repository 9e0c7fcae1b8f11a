-- `image::table::put_relations` meets its contract: after i turns the first i relations stand behind the classes, and the rest is as it was.
use Rattle.std.proofs.Common.{◌≡◌, refl, sym, ap, subst, ◌∙◌, arith, take, get_or, get_or-take, ◌+◌, ◌*◌}
use Rattle.rules.specs.Holds.{empty_relation}
use Rattle.rules.specs.Image.{FieldsHold, relation_image}
use Rattle.rules.proofs.Laws.Judge.{good_table}
use Rattle.rules.proofs.Laws.Pieces.{standing_none, standing_more}
use Rattle.rules.proofs.Laws.Written.{places_sized, table_held}
use Rattle.image.specs.Laws.Parts.{relation_bytes}
use Rattle.image.specs.Laws.Slices.{put_from_to}
use Rattle.image.proofs.table.put_relations.Goals as goal

pub shared_ref_as_front-k-items : goal.shared_ref_as_front-k-items
shared_ref_as_front-k-items c = (good_table c.args.t.now c.requires.0).few_relations

pub loop-i-init : goal.loop-i-init
loop-i-init c = standing_none (places_sized c.args.t.now) _ (4 + c.args.t.now.events)

pub loop-i-preserved : goal.loop-i-preserved
loop-i-preserved c =
    let t = c.args.t.now in
    let i = c.loop-i.i in
    let at = 4 + t.events + 6 * i in
    let same = get_or-take t.count t.relations i empty_relation (omega arith) in
    let held = subst FieldsHold (sym same) ((table_held t c.requires.0).relations_fit_lem i (omega arith)) in
    let piece =
    c.put_relation.ensures ∙ relation_bytes (get_or (take t.count t.relations) i empty_relation) held c.ends_of-ends.ensures ∙ ap relation_image same in
    standing_more (places_sized t) c.args.buffer.now (4 + t.events) at i (omega arith) refl c.loop-i.invariant piece
    (put_from_to at 6 c.loop-i.buffer c.put_relation.new.bytes)

pub returns : goal.returns
returns c =
    let all : c.loop-i.i ≡ c.args.t.now.count = omega arith in
    c.loop-i.invariant ∙ rw all

-- `image::table::put_classes` meets its contract: after e turns the classes of the first e events stand behind the header, and the rest is
-- as it was.
use Rattle.std.proofs.Common.{◌≡◌, ◌∙◌, arith, one-mul, ◌+◌, ◌*◌}
use Rattle.rules.proofs.Laws.Fields.{length_bytes}
use Rattle.rules.proofs.Laws.Pieces.{Sized, standing_none, standing_more}
use Rattle.image.specs.declared.classes.Classes.{Classes}
use Rattle.image.specs.Laws.Slices.{put_byte, byte_of_number}
use Rattle.image.proofs.table.put_classes.Invariants.{bytes_at}
use Rattle.image.proofs.table.put_classes.Goals as goal

sized : (classes : Classes) → Sized (bytes_at classes) 1
sized classes = record { each = λ e. length_bytes 1 _ }

pub loop-e-init : goal.loop-e-init
loop-e-init c = standing_none (sized c.args.classes) _ 4

pub loop-e-preserved : goal.loop-e-preserved
loop-e-preserved c =
    let e = c.loop-e.e in
    let place : 4 + e ≡ 4 + 1 * e = omega arith in
    standing_more (sized c.args.classes) c.args.buffer.now 4 (4 + e) e (omega arith) place c.loop-e.invariant
    (byte_of_number c.byte.type_inv c.byte.ensures) (put_byte (4 + e) c.byte.result c.loop-e.buffer (omega (arith, c.loop-e.auto.buffer)))

pub returns : goal.returns
returns c =
    let all : c.loop-e.e ≡ c.args.events = omega arith in
    c.loop-e.invariant ∙ rw (all, one-mul c.args.events)

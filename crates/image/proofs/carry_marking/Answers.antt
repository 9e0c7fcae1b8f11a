-- `image::carry_marking` meets its contract: what passes the two tests is written as the marking of the old image.
use Rattle.std.proofs.Common.{◌∙◌, sym, ap}
use Rattle.rules.specs.declared.Marking.{Marking}
use Rattle.rules.specs.Image.{write_marking}
use Rattle.rules.proofs.Laws.Numbers.{if_done}
use Rattle.rules.proofs.Laws.Tests.{not_false}
use Rattle.image.specs.Laws.Carried.{Carriable, carry_bytes}
use Rattle.image.proofs.carry_marking.Goals as goal

pub returns-clause-bytes : goal.returns-clause-bytes
returns-clause-bytes c =
    let buffer = c.args.buffer.now in
    let fit = not_false _ (if_done 2 _ (sym c.in_ok-events.ensures)) in
    let passed : Carriable c.args.events c.args.old.now = record { fit = fit; exact = c.if-old-events.false } in
    c.write_marking.ensures.bytes
    ∙ ap (λ (m : Marking). write_marking m buffer) c.carried_in.ensures
    ∙ sym (carry_bytes c.args.events c.args.old.now passed buffer)

-- `image::classes::classes_from` meets its contract: after e turns no class of the first e events has a spare bit, and each set has those of
-- them whose bit is set.
use Rattle.std.proofs.Common.{◌≡◌, sym, ◌∙◌, arith, length, eq-eqb, ne_eqb}
use Rattle.rules.proofs.Laws.EventSet.{set_zero}
use Rattle.rules.proofs.Laws.Numbers.{first_none, first_more, first_here}
use Rattle.image.specs.Classes.{class_number}
use Rattle.image.specs.Laws.Classes.{byte_spare, controls_grown, causes_grown}
use Rattle.image.proofs.classes.classes_from.Goals as goal

pub loop-e-init : goal.loop-e-init
loop-e-init c = record { clear = first_none _; controls = sym (set_zero _); causes = sym (set_zero _) }

pub returns-then-byte-ne0-clause-number : goal.returns-then-byte-ne0-clause-number
returns-then-byte-ne0-clause-number c =
    let bytes = c.args.bytes.now in
    let spare = byte_spare bytes c.loop-e.e (c.type_inv.bytes c.loop-e.e).fits in
    let set : class_number bytes c.loop-e.e ≡ 2 = rw (ne_eqb _ 0 (λ z. c.if-byte-ne0.true (spare ∙ z))) in
    sym (first_here _ (length bytes) c.loop-e.e c.loop-e-test.true c.loop-e.invariant.clear (λ z. omega (arith, sym set ∙ z)) ∙ set)

pub overflow_add-controllable : goal.overflow_add-controllable
overflow_add-controllable c =
    let e = c.loop-e.e in
    record { fits = (controls_grown _ e (c.type_inv.bytes e).fits (omega arith) _ _ c.loop-e.invariant.controls c.event_if-controllable.ensures).1 }

pub overflow_add-causable : goal.overflow_add-causable
overflow_add-causable c =
    let e = c.loop-e.e in
    record { fits = (causes_grown _ e (c.type_inv.bytes e).fits (omega arith) _ _ c.loop-e.invariant.causes c.event_if-causable.ensures).1 }

pub loop-e-preserved : goal.loop-e-preserved
loop-e-preserved c =
    let e = c.loop-e.e in
    let byte = (c.type_inv.bytes e).fits in
    record {
      clear = first_more _ _ c.loop-e.invariant.clear (rw (eq-eqb _ 0 (sym (byte_spare c.args.bytes.now e byte) ∙ c.if-byte-ne0.false)));
      controls = (controls_grown _ e byte (omega arith) _ _ c.loop-e.invariant.controls c.event_if-controllable.ensures).0;
      causes = (causes_grown _ e byte (omega arith) _ _ c.loop-e.invariant.causes c.event_if-causable.ensures).0;
    }

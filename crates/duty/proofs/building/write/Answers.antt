-- The numbers in their order; what is left is judged and written by the image's own call.
use Rattle.std.specs.Prelude.{◌≡◌, ℕ, refl}
use Rattle.std.proofs.Common.{arith, length}
use Rattle.std.proofs.lemmas.Grind.{common_steps}
use Rattle.rules.specs.Results.{number_of}
use Rattle.image.specs.Classes.{classes_number, classes_of}
use Rattle.duty.specs.Making.{counts_number}
use Rattle.duty.specs.Laws.Answered.{refused_result}
use Rattle.duty.specs.Laws.Made.{build_left, firm_refuse, counts_refuse, classes_refuse, table_written_lem}
use Rattle.duty.proofs.building.write.Goals as goal

pub returns-then-firm-gt1 : goal.returns-then-firm-gt1
returns-then-firm-gt1 c =
    let a = c.args in
    let first = firm_refuse a.events a.firm a.classes.now a.numbers.now c.if-firm-gt1.true (length a.table.now) in
    record {
      number = first;
      table = build_left a.events a.firm a.classes.now a.numbers.now 2 a.table.now first (λ z. omega (arith, z));
    }

pub returns-in_err-counts : goal.returns-in_err-counts
returns-in_err-counts c =
    let a = c.args in
    let number : ℕ = number_of c.from_residual.result in
    let counted : number ≡ counts_number a.events (length a.classes.now) (length a.numbers.now) = grind (arith, common_steps) in
    let some = refused_result c.from_residual.result c.from_residual.ensures.0 in
    let first = counts_refuse a.events a.firm a.classes.now a.numbers.now c.if-firm-gt1.false number counted some (length a.table.now) in
    record {
      number = first;
      table = build_left a.events a.firm a.classes.now a.numbers.now number a.table.now first some;
    }

pub returns-in_err-sets : goal.returns-in_err-sets
returns-in_err-sets c =
    let a = c.args in
    let counted : counts_number a.events (length a.classes.now) (length a.numbers.now) ≡ 0 = grind (arith, common_steps) in
    let number : ℕ = number_of c.from_residual-in_err-sets.result in
    let classed : number ≡ classes_number a.classes.now = grind (arith, common_steps) in
    let some = refused_result c.from_residual-in_err-sets.result c.from_residual-in_err-sets.ensures.0 in
    let first = classes_refuse a.events a.firm a.classes.now a.numbers.now c.if-firm-gt1.false counted classed some (length a.table.now) in
    record {
      number = first;
      table = build_left a.events a.firm a.classes.now a.numbers.now number a.table.now first some;
    }

pub returns : goal.returns
returns c =
    let a = c.args in
    let counted : counts_number a.events (length a.classes.now) (length a.numbers.now) ≡ 0 = grind (arith, common_steps) in
    let classed : 0 ≡ classes_number a.classes.now = grind (arith, common_steps) in
    let sets : c.in_ok-sets.sets ≡ classes_of a.classes.now = grind (arith, common_steps) in
    let made =
    table_written_lem a.events a.firm a.classes.now a.numbers.now c.if-firm-gt1.false counted classed refl _ _ sets
    (rw c.relations_from.ensures) a.table.now _ _ c.write_table.ensures.number c.write_table.ensures.bytes in
    record { number = made.0; table = made.1 }

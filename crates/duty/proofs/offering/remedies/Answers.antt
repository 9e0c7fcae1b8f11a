-- The stretch has the length that the answer says.
use Rattle.std.specs.Prelude.{ℕ, length}
use Rattle.std.proofs.Common.{◌∙◌, ap, sym}
use Rattle.std.proofs.Math.Path.{ap₂}
use Rattle.rules.specs.Fields.{bit}
use Rattle.image.specs.Laws.Packed.{flag_byte}
use Rattle.duty.specs.Laws.Offered.{start_long}
use Rattle.duty.proofs.offering.remedies.Goals as goal

pub returns-clause-start : goal.returns-clause-start
returns-clause-start c =
    let a = c.args in
    let found = c.in_ok-remedy.ensures in
    let long = start_long a.i.table.now a.i.marking.now a.preferred.now a.fallback.now (sym found.number) in
    ap₂ (λ (list count : ℕ). (list, count)) (flag_byte c.in_ok-remedy.remedy.fallback ∙ ap bit found.fallback) (ap length found.stretch ∙ long)

-- Both numbers are within the limit, so the difference fits, and the machine reads it back as it is.
use mathlib.Core.Path.{◌∙◌}
use Prim.Native.Nat.{◌<◌, ◌^◌}
use native.Mathlib.Omega.{arith}
use mir.Syntax.{w32}
use mir.Facts.{to_z_pos, to_z-of_z}
use Rattle.rules.specs.Holds.{limit}
use Rattle.rules.proofs.Laws.Margin.{minus_range}
use Rattle.acts.proofs.margin.minus.Goals as goal

pub overflow_sub-result : goal.overflow_sub-result
overflow_sub-result c =
    let a = c.args.age in
    let t = c.args.time in
    let ha : a < 2 ^ 31 = omega arith in
    let ht : t < 2 ^ 31 = omega arith in
    record { sfits = rw (to_z_pos w32 {n = a} ha, to_z_pos w32 {n = t} ht) (omega (arith, minus_range limit a t c.requires.0 c.requires.1)) }

pub returns : goal.returns
returns c =
    let a = c.args.age in
    let t = c.args.time in
    let ha : a < 2 ^ 31 = omega arith in
    let ht : t < 2 ^ 31 = omega arith in
    to_z-of_z (overflow_sub-result c) ∙ rw (to_z_pos w32 {n = a} ha, to_z_pos w32 {n = t} ht)

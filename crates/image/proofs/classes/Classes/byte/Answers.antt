-- `image::classes::Classes::byte` meets its contract: a digit of a set is the flag of its event as a bit.
use mathlib.Core.Path.{◌≡◌}
use Prim.Native.Nat.{ℕ, ◌/◌, ◌%◌, ◌^◌}
use native.Mathlib.Nat.{mod-lt}
use native.Mathlib.Omega.{arith}
use lib.Dec.{lit<}
use Rattle.rules.specs.EventSet.{has}
use Rattle.rules.specs.Fields.{bit}
use Rattle.rules.proofs.Laws.Fields.{flag_bit}
use Rattle.image.proofs.classes.Classes.byte.Goals as goal

digit : (set e : ℕ) → bit (has set e) ≡ set / 2 ^ e % 2
unfolding has
digit set e = flag_bit (set / 2 ^ e % 2) (mod-lt (set / 2 ^ e) (lit< tt))

pub returns : goal.returns
returns c = omega (arith, digit c.args.self.controllable c.args.e, digit c.args.self.causable c.args.e)

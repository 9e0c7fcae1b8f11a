-- The event is or-ed in, or nothing is.
use mathlib.Core.Path.{◌≡◌, ◌∙◌, ap}
use mathlib.Core.Bool.{Bool, true, false, ◌&&◌, ◌||◌}
use Prim.Native.Nat.{ℕ, ◌<◌, ◌*◌, ◌^◌, ◌%◌}
use native.Mathlib.Nat.{zero-mul}
use mir.Val.{bool_byte}
use lib.Dec.{eqb}
use Rattle.rules.specs.EventSet.{has}
use Rattle.rules.proofs.Laws.EventSet.{has_zero}
use Rattle.rules.proofs.Laws.Bitwise.{has_or, has_one}
use Rattle.rules.proofs.Laws.Time.{one_shifted}
use Rattle.acts.proofs.event_set.with_if.Goals as goal

-- the word of one event, or of none
has_one_if : (so : Bool) (e x : ℕ) → e < 64 → has (bool_byte so * 2 ^ e % 2 ^ 64) x ≡ (so && eqb e x)
has_one_if true e x b = rw (one_shifted e b) (has_one e x)
has_one_if false e x b = rw (zero-mul (2 ^ e)) (has_zero x)

pub returns : goal.returns
returns c =
    let set = c.args.set in
    λ x. has_or set _ x ∙ ap (λ (b : Bool). has set x || b) (has_one_if c.args.so c.args.e x c.requires)

-- One event or-ed in is the set with the event.
use mathlib.Core.Path.{◌∙◌, ap}
use Prim.Native.Nat.{ℕ}
use lib.Bits.{bit_or}
use Rattle.rules.proofs.Laws.Time.{one_shifted}
use Rattle.rules.proofs.Laws.Turns.{or_one}
use Rattle.acts.proofs.event_set.adding.Goals as goal

pub returns : goal.returns
returns c =
    ap (λ (x : ℕ). bit_or c.args.set x) (one_shifted c.args.event c.requires) ∙ or_one c.args.set c.args.event c.requires c.ranges.set.fits

-- The relation lacks what it asks for, of a right event that is included or has returned.
use mathlib.Core.Path.{◌≡◌, ◌∙◌, sym}
use mathlib.Core.Bool.{true, ◌||◌}
use Rattle.rules.proofs.Laws.Tests.{clash, or_left, or_right}
use Rattle.acts.specs.Laws.Blocking.{stops_as}
use Rattle.acts.proofs.blocking.stops.Goals as goal
use Rattle.acts.proofs.blocking.stops.Goals.{then-returned, else-returned}

pub returns-then-r : goal.returns-then-r
returns-then-r c =
    let there : c.args.returned || c.args.r.included ≡ true = elim c.if-returned.branch [
      | then-returned w ↦ or_left c.args.returned c.args.r.included w.if-returned.true
      | else-returned w ↦ or_right c.args.returned c.args.r.included (sym w.value-is ∙ c.if-r.true)
    ] in
    rw (stops_as, there) c.lacks.ensures

pub returns-else-r : goal.returns-else-r
returns-else-r c = rw stops_as (elim c.if-returned.branch [
  | then-returned w ↦ absurd (clash (w.value-is ∙ w.if-returned.true) c.if-r.false)
  | else-returned w ↦ simp (w.if-returned.false, ← w.value-is, c.if-r.false)
])

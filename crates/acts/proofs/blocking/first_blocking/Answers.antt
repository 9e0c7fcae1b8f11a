-- Below i no relation blocks, or would. So the first that does, at i, is the lowest.
use mathlib.Core.Path.{◌≡◌, ◌∙◌, sym}
use native.Mathlib.Omega.{arith}
use borrow.Author.Tests.{eq-eqb, ne_eqb}
use Rattle.rules.proofs.Laws.Granted.{right_told}
use Rattle.rules.proofs.Laws.Counting.{lowest_more, lowest_here}
use Rattle.acts.specs.Blocking.{blocks_as}
use Rattle.acts.proofs.blocking.first_blocking.Goals as goal
use Rattle.acts.proofs.blocking.first_blocking.Goals.{else-k-e-via-then-k-e+else-stops, else-k-e-via-else-k-e}

pub loop-i-init : goal.loop-i-init
loop-i-init c = c.requires.from_le_count.1

pub bounds-m-k : goal.bounds-m-k
bounds-m-k c = right_told c.requires.good.table_good _ c.loop-i-test.true

pub loop-i-preserved : goal.loop-i-preserved
unfolding blocks_as
loop-i-preserved c = lowest_more _ c.loop-i.i c.loop-i.invariant (elim c.else-k-e.branch [
  | else-k-e-via-then-k-e+else-stops w ↦ rw (eq-eqb _ _ w.if-k-e.true) (sym w.stops.ensures ∙ w.if-stops.false)
  | else-k-e-via-else-k-e w ↦ rw (ne_eqb _ _ w.if-k-e.false)
])

pub returns-then-stops : goal.returns-then-stops
unfolding blocks_as
returns-then-stops c =
    (c.loop-i-test.true, sym (lowest_here _ c.loop-i.i _ c.loop-i-test.true c.loop-i.invariant (rw (eq-eqb _ _ c.if-k-e.true) (sym c.stops.ensures ∙ c.if-stops.true))))

pub returns : goal.returns
returns c = let e : c.loop-i.i ≡ c.args.t.now.count = omega arith in sym (rw e at c.loop-i.invariant)

-- The loop's invariant: the relations from i on are told.
use Rattle.std.proofs.Common.{sym, ◌∙◌}
use Rattle.chain.specs.Laws.Filling.{starts, turn_passed, turn_blocked}
use Rattle.chain.proofs.stops.Visits.of.Goals as goal
use Rattle.chain.proofs.stops.Visits.of.Goals.{then-stops, else-stops}

pub loop-i-init : goal.loop-i-init
loop-i-init c = starts c.args.t.now c.args.m.now

pub loop-i-preserved : goal.loop-i-preserved
loop-i-preserved c =
    elim c.if-stops.branch [
      | then-stops w ↦ rw (w.firsts-is, w.next-is, w.replace-next.ensures.value, w.replace-next.ensures.after)
          (turn_blocked _ _ c.requires.table_good _ c.loop-i-test.true _ _ c.loop-i.invariant (sym c.stops.ensures ∙ w.if-stops.true))
      | else-stops w ↦ rw (w.firsts-is, w.next-is)
          (turn_passed _ _ c.requires.table_good _ c.loop-i-test.true _ _ c.loop-i.invariant (sym c.stops.ensures ∙ w.if-stops.false))
    ]

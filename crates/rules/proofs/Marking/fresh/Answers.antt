-- `rules::Marking::fresh` meets its contract: after i turns the first i places are fresh and the rest empty.
use mathlib.Core.Path.{◌≡◌, refl, ap, ◌∙◌}
use native.Mathlib.Omega.{arith}
use borrow.Author.Tests.{le-leb, lt-leb}
use Rattle.rules.specs.declared.Marking.{Marking}
use Rattle.rules.specs.Holds.{most_events, empty_record}
use Rattle.rules.specs.Image.{fresh, fresh_record}
use Rattle.rules.proofs.Laws.Counting.{filled_none, filled_more}
use Rattle.rules.proofs.Marking.fresh.Goals as goal
use Rattle.rules.proofs.Marking.fresh.Goals.{then-events-lt1-via-then-events-lt1, then-events-lt1-via-else-events-lt1+then-events-gt-MOST_EVENTS}

pub returns-then-events-lt1 : goal.returns-then-events-lt1
unfolding fresh
returns-then-events-lt1 c = elim c.then-events-lt1.branch [
  | then-events-lt1-via-then-events-lt1 w ↦ rw (lt-leb _ _ w.if-events-lt1.true) refl
  | then-events-lt1-via-else-events-lt1+then-events-gt-MOST_EVENTS w ↦
      rw (le-leb _ _ w.if-events-lt1.false, lt-leb _ _ w.if-events-gt-MOST_EVENTS.true) refl
]

pub loop-i-init : goal.loop-i-init
loop-i-init c = ap (λ (m : Marking). m.records) c.empty-marking.ensures ∙ filled_none _ empty_record most_events

pub loop-i-preserved : goal.loop-i-preserved
loop-i-preserved c = rw c.loop-i.invariant (filled_more (λ e. fresh_record) empty_record most_events c.loop-i.i (omega arith))

pub returns : goal.returns
unfolding fresh
returns c =
    let e : c.loop-i.i ≡ c.args.events = omega arith in
    simp (
      le-leb _ _ c.if-events-lt1.false,
      le-leb _ _ c.if-events-gt-MOST_EVENTS.false,
      c.loop-i.invariant,
      e,
    )

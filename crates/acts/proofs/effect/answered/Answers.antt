-- What was met stands, of whatever table the words are.
use mathlib.Core.Path.{◌∙◌}
use Rattle.acts.specs.Laws.Answering.{answering_start, answering_end, answering_met}
use Rattle.acts.proofs.effect.answered.Goals as goal

pub loop-link-init : goal.loop-link-init
loop-link-init c =
    rw c.into_iter-link-iterator.ensures.into_iter_gives (
    record {
      same = c.chain-link-items.ensures.links;
      answering = λ t e row size. rw c.chain-link-items.ensures.next (answering_start t e _ _ _ row.good _ _ _ row.own);
    }
    )

pub loop-link-preserved : goal.loop-link-preserved
loop-link-preserved c =
    let met = c.in-Some.ensures.steps in
    let now = c.loop-link.invariant in
    record {
      same = met.same ∙ now.same;
      answering = λ t e row size.
          rw (c.adding-dated.ensures, c.earlier.ensures, c.has_event.ensures)
          (answering_met t e _ _ _ row.good _ _ _ row.own _ _ _ (now.answering t e row size) met.more (rw now.same at met.is) met.next size);
    }

pub returns : goal.returns
returns c t e row size = answering_end t e _ _ _ _ _ _ (c.loop-link.invariant.answering t e row size) c.in-None.ensures.steps

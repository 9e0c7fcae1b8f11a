-- None of the conditions that were met waits, of whatever table the words are.
use mathlib.Core.Path.{◌∙◌, sym}
use Rattle.acts.specs.Laws.Waiting.{waiting_start, waiting_end, waiting_met_here, waiting_met}
use Rattle.acts.proofs.marking_words.MarkingWords.waits.Goals as goal

pub loop-link-init : goal.loop-link-init
loop-link-init c =
    rw c.into_iter-link-iterator.ensures.into_iter_gives (
    record {
      same = c.chain-link-items.ensures.links;
      waiting = λ t e row. rw c.chain-link-items.ensures.next (waiting_start t e _ _ _ row.good _ _ _ row.own);
    }
    )

pub returns-then-is_young : goal.returns-then-is_young
returns-then-is_young c t e row =
    let met = c.in-Some.ensures.steps in
    let now = c.loop-link.invariant in
    sym (waiting_met_here t e _ _ _ row.good _ _ _ row.own _ (now.waiting t e row) met.more (rw now.same at met.is) (sym c.is_young.ensures ∙ c.if-is_young.true))

pub loop-link-preserved : goal.loop-link-preserved
loop-link-preserved c =
    let met = c.in-Some.ensures.steps in
    let now = c.loop-link.invariant in
    record {
      same = met.same ∙ now.same;
      waiting = λ t e row.
          waiting_met t e _ _ _ row.good _ _ _ row.own _ (now.waiting t e row) met.more (rw now.same at met.is) met.next
          (sym c.is_young.ensures ∙ c.if-is_young.false);
    }

pub returns : goal.returns
returns c t e row = sym (waiting_end t e _ _ _ row.good _ _ _ row.own _ (c.loop-link.invariant.waiting t e row) c.in-None.ensures.steps)

-- Of the events passed, those without an inhibitor are found and the others are noted with their inhibitors; those left are to come. Assumes
-- nothing.
use Rattle.std.proofs.Common.{refl}
use Rattle.acts.specs.Laws.Due.{chosen_if}
use Rattle.acts.specs.Laws.Each.{chosen_start, chosen_end}
use Rattle.duties.specs.Laws.Ready.{waits_for, awaits_start, awaits_more}
use Rattle.duties.proofs.ready.ready.Invariants.{is_free}
use Rattle.duties.proofs.ready.ready.Goals as goal

pub loop-e-init : goal.loop-e-init
loop-e-init c =
    rw (c.requires, c.into_iter-e-iterator.ensures.into_iter_gives, c.of-e-items.ensures) (
      refl,
      λ x. chosen_start (is_free c.args.rows.now.words c.args.set) x c.args.set,
      λ x b. awaits_start c.args.rows.now.words c.args.set x b,
    )

pub loop-e-preserved : goal.loop-e-preserved
loop-e-preserved c =
    let t = c.in-Some.ensures.steps in
    rw t.others (
      c.await_each.ensures.waiting_len,
      λ x.
          chosen_if (is_free c.args.rows.now.words c.args.set) c.loop-e.found c.loop-e.e-iterator.left c.in-Some.e _ x t.inside
          (rw c.followed-inhibitors.ensures at (c.with_if-found.ensures x)) (c.loop-e.invariant.1 x),
      λ x b y.
          awaits_more c.args.rows.now.words c.args.set x c.in-Some.e c.loop-e.e-iterator.left _ _ _ y t.inside c.followed-inhibitors.ensures
          (c.await_each.ensures.by_index x b) (c.loop-e.invariant.2 x b y),
    )

pub returns : goal.returns
returns c = record {
  by_index = λ x. chosen_end (is_free c.args.rows.now.words c.args.set) x c.loop-e.found c.loop-e.e-iterator.left c.in-None.ensures.steps (c.loop-e.invariant.1 x);
  awaits = λ x b e.
      chosen_end (waits_for c.args.rows.now.words c.args.set x) e _ c.loop-e.e-iterator.left c.in-None.ensures.steps (c.loop-e.invariant.2 x b e);
}

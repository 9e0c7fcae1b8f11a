-- What was found, with what is left, is what may be due and is over.
use mathlib.Core.Path.{◌∙◌}
use Rattle.acts.specs.Laws.Each.{chosen_start, chosen_end}
use Rattle.acts.specs.Laws.Due.{is_over, due_is, chosen_if}
use Rattle.acts.proofs.marking_words.MarkingWords.due.Goals as goal

pub loop-e-init : goal.loop-e-init
loop-e-init c =
    λ x. chosen_start (is_over c.args.self.now.clock c.args.self.now.columns) x c.into_iter-e-iterator.result.left
    ∙ rw (c.into_iter-e-iterator.ensures.into_iter_gives, c.of-e-items.ensures, c.bounded_pending.ensures x)

pub loop-e-preserved : goal.loop-e-preserved
loop-e-preserved c =
    let t = c.in-Some.ensures.steps in
    rw t.others (λ x. chosen_if (is_over c.args.self.now.clock c.args.self.now.columns) _ _ _ _ x t.inside (c.with_if-found.ensures x) (c.loop-e.invariant x))

pub returns : goal.returns
returns c =
    let over = is_over c.args.self.now.clock c.args.self.now.columns in
    λ tail m stands. due_is c.args.n tail c.args.self.now.clock c.args.self.now.sets c.args.self.now.columns m stands c.loop-e.found
    (λ x. chosen_end over x c.loop-e.found c.loop-e.e-iterator.left c.in-None.ensures.steps (c.loop-e.invariant x))

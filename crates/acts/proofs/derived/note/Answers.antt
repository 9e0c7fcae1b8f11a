-- The chain's beginning, and then the word.
use Rattle.acts.specs.Laws.Derived.{noted_begun}
use Rattle.acts.proofs.derived.note.Goals as goal

pub returns-clause-rows_after : goal.returns-clause-rows_after
returns-clause-rows_after c =
    rw (c.adding.ensures, c.sort.ensures.value, c.begin.ensures.rows_after) (noted_begun c.args.rows.now c.args.at c.args.i c.args.k)

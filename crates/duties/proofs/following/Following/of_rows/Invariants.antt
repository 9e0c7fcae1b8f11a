-- The words of the first events are made, the others are still 0; their bounded responses answer.
use Rattle.std.specs.Prelude.{◌≡◌, ℕ}
use Rattle.rules.specs.Counting.{some}
use Rattle.rules.specs.EventSet.{has}
use Rattle.acts.specs.Derived.{row_of}
use Rattle.duties.specs.Laws.Followed.{Made}
use Rattle.duties.proofs.following.Following.of_rows.Given as goal

abbrev pub invariant-loop-e : goal.invariant-loop-e
invariant-loop-e l =
    Made l.rows.words l.e l.following.words × ((x : ℕ) → has l.following.answers x ≡ some l.e (λ e. has (row_of l.rows.words e 3) x))

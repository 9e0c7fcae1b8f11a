-- What was found is closed but for the events still to be opened; each turn opens one.
use Rattle.std.specs.Prelude.{◌≡◌, ℕ, ◌<◌}
use Rattle.rules.specs.Counting.{how_many}
use Rattle.duties.specs.Laws.Reached.{waits, Opening, Reaching}
use Rattle.duties.proofs.following.reached.Given as goal

abbrev pub invariant-loop-e : goal.invariant-loop-e
invariant-loop-e g l =
    Opening l.found l.unopened.left
    × ((word : ℕ → ℕ) → ((e w : ℕ) → e < 64 → goal.F-post g l.leads e w → w ≡ word e) → Reaching word l.set l.found l.unopened.left)

abbrev pub decreases-loop-e : goal.decreases-loop-e
decreases-loop-e g l = how_many 64 (waits l.found l.unopened.left)

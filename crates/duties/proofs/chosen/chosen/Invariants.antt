-- What is found, with those of the events left that pass, is the whole.
use Rattle.std.specs.Prelude.{◌≡◌, Bool, ◌&&◌, ◌||◌, ℕ, ◌<◌}
use Rattle.rules.specs.EventSet.{has}
use Rattle.duties.proofs.chosen.chosen.Given as goal

abbrev pub invariant-loop-e : goal.invariant-loop-e
invariant-loop-e g l =
    (f : ℕ → Bool) → ((e : ℕ) (b : Bool) → e < 64 → goal.F-post g l.test e b → b ≡ f e)
    → (x : ℕ) → (has l.found x || (has l.e-iterator.left x && f x)) ≡ (has l.set x && f x)

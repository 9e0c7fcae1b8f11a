-- What is found, with what the events left still lead to, is the whole.
use Rattle.std.specs.Prelude.{◌≡◌, ◌||◌, ℕ}
use Rattle.rules.specs.Counting.{some}
use Rattle.rules.specs.EventSet.{has}
use Rattle.duties.specs.Inhibition.{led_to}
use Rattle.duties.proofs.reasons.led_to.Given as goal

abbrev pub invariant-loop-e : goal.invariant-loop-e
invariant-loop-e l =
    (x : ℕ) → (has l.found x || some 64 (led_to l.rows.words l.sort l.e-iterator.left x)) ≡ some 64 (led_to l.rows.words l.sort l.set x)

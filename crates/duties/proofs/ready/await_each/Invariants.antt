-- Each place has the event already, or is to be given it.
use Rattle.std.specs.Prelude.{◌≡◌, ℕ, length}
use Rattle.rules.specs.EventSet.{with_event}
use Rattle.duties.specs.Laws.Ready.{changed}
use Rattle.duties.proofs.ready.await_each.Given as goal

-- what a place has once the event is given
abbrev pub given : ℕ → ℕ → ℕ
given e waits = with_event waits e

abbrev pub invariant-loop-x : goal.invariant-loop-x
invariant-loop-x l =
    (length l.waiting ≡ 64) × ((x : ℕ) → changed (given l.e) x l.x-iterator.left l.waiting ≡ changed (given l.e) x l.set l.initial.waiting)

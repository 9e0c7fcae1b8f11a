-- Of the events passed, those without an inhibitor are found and the others are noted with their inhibitors; those left are to come. Assumes
-- nothing.
use Rattle.std.specs.Prelude.{◌≡◌, Bool, ◌&&◌, ◌||◌, List, ℕ, ◌<◌, eqb, length, get_or}
use Rattle.rules.specs.EventSet.{has}
use Rattle.duties.specs.Inhibition.{followed_in, ready_in}
use Rattle.duties.specs.Laws.Ready.{waits_for}
use Rattle.duties.proofs.ready.ready.Given as goal

-- an event has no inhibitor in the set
abbrev pub is_free : List ℕ → ℕ → ℕ → Bool
is_free rows set e = eqb (followed_in rows set set e) 0

abbrev pub invariant-loop-e : goal.invariant-loop-e
invariant-loop-e l =
    (length l.waiting ≡ 64)
    × ((x : ℕ) → (has l.found x || (has l.e-iterator.left x && is_free l.rows.words l.set x)) ≡ ready_in l.rows.words l.set x)
    × ((x : ℕ) → x < 64 → (e : ℕ) → (has (get_or l.waiting x 0) e || (has l.e-iterator.left e && waits_for l.rows.words l.set x e))
    ≡ (has l.set e && waits_for l.rows.words l.set x e))

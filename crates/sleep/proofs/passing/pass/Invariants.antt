-- Turn after turn, until all ticks have passed.
use Rattle.std.specs.Prelude.{◌≡◌, List, ℕ, ◌≤◌, ◌*◌, ◌-◌, length}
use Rattle.rules.specs.declared.Record.{Record}
use Rattle.rules.specs.declared.Marking.{Marking}
use Rattle.rules.specs.declared.Table.{Table}
use Rattle.acts.specs.Words.{WordsOf}
use Rattle.sleep.specs.Passing.{Passing}
use Rattle.sleep.proofs.passing.pass.Given as goal

abbrev pub invariant-loop-marking : goal.invariant-loop-marking
invariant-loop-marking l =
    (l.marking.clock ≤ l.ticks) × (l.count ≤ 64 * l.marking.clock) × (length l.list ≡ length l.initial.list)
    × ((t : Table) (tail : List Record) (m : Marking) (before : List ℕ) → WordsOf t l.table
    → Passing t tail m before l.initial.marking l.initial.count l.initial.list → Passing t tail m before l.marking l.count l.list)

abbrev pub decreases-loop-marking : goal.decreases-loop-marking
decreases-loop-marking l = l.ticks - l.marking.clock

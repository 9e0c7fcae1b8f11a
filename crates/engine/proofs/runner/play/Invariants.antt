-- Whatever the steps are that are told, the words stand for the marking after the first i of them.
use Rattle.std.proofs.Common.{◌≡◌, ◌≤◌, length, List}
use Rattle.rules.specs.declared.Record.{Record}
use Rattle.rules.specs.declared.Table.{Table}
use Rattle.rules.specs.declared.Marking.{Marking}
use Rattle.rules.specs.declared.Step.{Step}
use Rattle.rules.specs.Judge.{judged}
use Rattle.acts.specs.Words.{WordsOf, StandFor}
use Rattle.engine.specs.Running.{Tells}
use Rattle.engine.specs.Laws.Playing.{Playing}
use Rattle.engine.proofs.runner.play.Given as goal

abbrev pub invariant-loop-i : goal.invariant-loop-i
invariant-loop-i g l = record {
  same_room : length l.answers ≡ length l.fn.answers;
  clock_bound : l.marking.clock ≤ l.i;
  playing : (t : Table) (tail : List Record) (m : Marking) (steps : List Step) → judged t m ≡ 0 → WordsOf t l.table
      → StandFor t.events tail l.initial.marking m → length steps ≡ length l.fn.answers → Tells (goal.F-post g l.step_at) steps
      → Playing t tail m steps l.fn.answers l.i l.marking l.accepted l.answers;
}

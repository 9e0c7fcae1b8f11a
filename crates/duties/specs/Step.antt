-- A step over words: what it says, and what the words stand for after it.
use Rattle.std.specs.Prelude.{◌≡◌, Bool, ◌&&◌, ◌||◌, List, ℕ, eqb}
use Rattle.rules.specs.declared.Table.{Table}
use Rattle.rules.specs.declared.Record.{Record}
use Rattle.rules.specs.declared.Marking.{Marking}
use Rattle.rules.specs.declared.Step.{Step}
use Rattle.rules.specs.Shapes.Turned.{turned}
use Rattle.acts.specs.declared.marking_words.MarkingWords.{MarkingWords}
use Rattle.acts.specs.Words.{StandFor}

-- by a step in the marking m; a guarded tick that is done shows that the check accepts
pub record Turned (t : Table) (tail : List Record) (m : Marking) (accepted : Bool) (step : Step) (told : ℕ) (now : Bool) (after : MarkingWords)
    : Type 0 where
  pub number : told ≡ (turned t m step.kind step.event).number
  pub stands : StandFor t.events tail after (turned t m step.kind step.event).marking
  pub accepts : now ≡ (accepted || eqb step.kind 3 && eqb told 0)

-- A history: the executions and the passes of time that the steps of a trace come to. A refused step comes to nothing; a guarded tick comes to
-- the executions of what it causes, and then a pass of time.
use Rattle.std.specs.Prelude.{cond, List, [], ◌∷◌, ◌++◌, ℕ, suc, eqb, leb}
use Rattle.rules.specs.declared.Table.{Table}
use Rattle.rules.specs.declared.Marking.{Marking}
use Rattle.rules.specs.declared.Step.{Step}
use Rattle.rules.specs.Numbers.{done}
use Rattle.rules.specs.Effect.{effect}
use Rattle.rules.specs.Time.{time}
use Rattle.rules.specs.Guard.{caused}
use Rattle.rules.specs.Trace.{last_happen_kind, plain_tick_kind, step_number, stepped}

pub data Act : Type 0 where
  executes : ℕ → Act
  passes : Act

-- the marking after some acts
unfoldable pub after : Table → Marking → List Act → Marking
after t m [] = m
after t m (executes e ∷ rest) = after t (effect t m e) rest
after t m (passes ∷ rest) = after t (time m) rest

-- how often time passes in them
unfoldable pub passes_in : List Act → ℕ
passes_in [] = 0
passes_in (executes e ∷ rest) = passes_in rest
passes_in (passes ∷ rest) = suc (passes_in rest)

-- how often event x is executed in them
unfoldable pub executions_of : ℕ → List Act → ℕ
executions_of x [] = 0
executions_of x (executes e ∷ rest) = cond (eqb x e) (suc (executions_of x rest)) (executions_of x rest)
executions_of x (passes ∷ rest) = executions_of x rest

-- the events of a list are executed, then time passes
unfoldable pub then_pass : List ℕ → List Act
then_pass [] = passes ∷ []
then_pass (e ∷ rest) = executes e ∷ then_pass rest

-- what a step comes to
unfoldable pub acts_of : Table → Marking → Step → List Act
acts_of t m s =
    done (step_number t m s)
    (cond (leb s.kind last_happen_kind) (executes s.event ∷ []) (cond (eqb s.kind plain_tick_kind) (passes ∷ []) (then_pass (caused t m))))
    []

unfoldable pub history_of : Table → Marking → List Step → List Act
history_of t m [] = []
history_of t m (s ∷ rest) = acts_of t m s ++ history_of t (stepped t m s) rest

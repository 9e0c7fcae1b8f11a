-- A function that tells the steps of a trace, one by one.
use Rattle.std.specs.Prelude.{◌≡◌, List, ℕ, ◌<◌, length, get_or}
use Rattle.rules.specs.declared.Step.{Step}

abbrev pub no_step : Step
no_step = record { kind = 0; event = 0 }

-- of each place what may be told of it is the step there
abbrev pub Tells : (ℕ → Step → Type 0) → List Step → Type 0
Tells told steps = (i : ℕ) (s : Step) → i < length steps → told i s → s ≡ get_or steps i no_step

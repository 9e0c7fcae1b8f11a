-- What makes any stops safe to visit by: each leads to a later one, and to an event.
use Rattle.std.specs.Prelude.{◌≡◌, List, ℕ, Option, Some, None, ◌-◌, ◌<◌, get_or}
use Rattle.chain.specs.declared.stops.Stop.{Stop}

abbrev pub no_stop : Stop
no_stop = record { right = 0; next = None }

-- the stop of relation k
abbrev pub stop_of : List Stop → ℕ → Stop
stop_of stops k = get_or stops k no_stop

pub record Safe (stops : List Stop) : Type 0 where
  pub rises : (k next : ℕ) → (stop_of stops k).next ≡ Some next → k < next
  pub events : (k : ℕ) → (stop_of stops k).right < 64

-- numbers rise from one relation to the next, so what is left of the numbers falls
abbrev pub to_go : Option ℕ → ℕ
to_go None = 0
to_go (Some k) = 256 - k

-- What the guarded tick of a marking promises of the events that it causes. Demand 3 says that it keeps this wherever the check accepts.
use Rattle.std.specs.Prelude.{◌≡◌, true, false, List, [], ◌∷◌, ◌++◌, ℕ, ◌<◌, ◌≤◌, ◌-◌, length, replicate}
use Rattle.rules.specs.declared.Table.{Table}
use Rattle.rules.specs.declared.Marking.{Marking}
use Rattle.rules.specs.Counting.{times}
use Rattle.rules.specs.EventSet.{has}
use Rattle.rules.specs.Holds.{most_events, is_causable}
use Rattle.rules.specs.Enabled.{is_enabled}
use Rattle.rules.specs.Time.{any_due, time}
use Rattle.rules.specs.Closure.{closure}
use Rattle.rules.specs.Guard.{caused, guarded_tick}
use Rattle.rules.specs.Remedy.{effects}

pub record Promise (t : Table) (m : Marking) : Type 0 where
  -- it is not refused, and lists the caused events; then time passes
  pub not_refused : (guarded_tick t m).number ≡ 0
  pub counted : (guarded_tick t m).count ≡ length (caused t m)
  pub listed : (guarded_tick t m).caused ≡ caused t m ++ replicate (most_events - length (caused t m)) 0
  pub room : length (caused t m) ≤ most_events
  pub passed : (guarded_tick t m).marking ≡ time (effects t m (caused t m))
  -- it causes nothing when nothing is due
  pub idle : any_due m ≡ false → caused t m ≡ []
  -- otherwise only causable members of the closure, each enabled in the marking at the moment it is executed, after those before it
  pub each : (before rest : List ℕ) (e : ℕ) → caused t m ≡ before ++ (e ∷ rest)
      → (e < t.events) × (is_causable t e ≡ true) × (has (closure t m) e ≡ true) × (is_enabled t (effects t m before) e ≡ true)
  -- each at most once
  pub once : (e : ℕ) → times e (caused t m) ≤ 1
  -- and when time then passes, no event is due
  pub calm : any_due (effects t m (caused t m)) ≡ false

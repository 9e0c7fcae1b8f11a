-- The number of an event that happens: 8 where there is none, else 10 where it is not enabled. Assumes nothing.
use Rattle.std.specs.Prelude.{◌≡◌, Bool, not, ℕ, ◌<◌, ◌≤◌}
use Rattle.std.proofs.Common.{ap, arith, lt-ltb, le-ltb}
use Rattle.rules.specs.declared.Table.{Table}
use Rattle.rules.specs.declared.Marking.{Marking}
use Rattle.rules.specs.Numbers.{◌if◌}
use Rattle.rules.specs.Enabled.{is_enabled}
use Rattle.rules.specs.Happen.{happen_number}
use Rattle.acts.specs.declared.derived.Head.{Head}
use Rattle.acts.specs.Derived.{firm_set, head_of}

module _ (head : Head) (t : Table) (is : head ≡ head_of t) where
  -- as many events as the head says, and firm as it says
  same_events : head.events ≡ t.events
  same_events = ap (λ (k : Head). k.events) is

  pub head_exists : (e : ℕ) → e < head.events → e < t.events
  head_exists e b = omega (arith, same_events)

  pub head_firm : head.firm ≡ firm_set t.firm
  head_firm = ap (λ (k : Head). k.firm) is

  pub happen_missing : (m : Marking) (e : ℕ) → head.events ≤ e → 8 ≡ happen_number t m e
  unfolding happen_number
  happen_missing m e b = rw (le-ltb e t.events (omega (arith, same_events)))

  pub happen_acted : (m : Marking) (e : ℕ) → e < head.events → {acts : Bool} → acts ≡ is_enabled t m e → 10 if not acts ≡ happen_number t m e
  unfolding happen_number
  happen_acted m e b p = rw (lt-ltb e t.events (head_exists e b), ← p)

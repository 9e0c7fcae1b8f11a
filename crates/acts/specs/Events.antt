-- Going through the events of a set, the lowest first.
use Rattle.std.specs.Prelude.{◌≡◌, true, false, ℕ, ◌<◌, ◌≤◌, ◌-◌, ◌^◌, Option}
use Rattle.std.specs.Option.{MatchOption}
use Rattle.rules.specs.EventSet.{has}
use Rattle.acts.specs.declared.events.Events.{Events}

-- e is the lowest event of a set, and rest has the others
pub record Taken (set e rest : ℕ) : Type 0 where
  pub small : e < 64
  pub inside : has set e ≡ true
  pub first : (x : ℕ) → x < e → has set x ≡ false
  pub worth : 2 ^ e ≤ set
  pub others : rest ≡ set - 2 ^ e
  pub less : rest < set

-- a turn: no event is left, or the lowest of those left is taken
abbrev pub LowestFirst : Events → Option ℕ → Events → Type 0
LowestFirst before r after = MatchOption r (before.left ≡ 0) (λ e. Taken before.left e after.left)

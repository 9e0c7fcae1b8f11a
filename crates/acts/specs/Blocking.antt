-- One search for two: the lowest relation that blocks an event as things are, or that would if its right event were included.
use Rattle.std.specs.Prelude.{◌≡◌, Bool, ◌&&◌, cond, ℕ, ◌<◌, eqb, Option}
use Rattle.std.specs.Option.{MatchOption}
use Rattle.rules.specs.Counting.{lowest}
use Rattle.rules.specs.declared.Table.{Table}
use Rattle.rules.specs.declared.Record.{Record}
use Rattle.rules.specs.declared.Marking.{Marking}
use Rattle.rules.specs.Holds.{relation_of, record_of}
use Rattle.rules.specs.Enabled.{stops}
use Rattle.rules.specs.Including.{as_included}

-- a record as it is, or as if its event had returned
abbrev pub as_if : Bool → Record → Record
as_if returned r = cond returned (as_included r) r

-- relation k blocks e, where its right event is as it is, or as if it had returned
unfoldable pub blocks_as : Bool → Table → Marking → ℕ → ℕ → Bool
blocks_as returned t m e k = eqb (relation_of t k).left e && stops (relation_of t k) (as_if returned (record_of m (relation_of t k).right))

-- what a search for the lowest number below n at which f holds gives: that number, or that there is none
abbrev pub FoundLowest : ℕ → (ℕ → Bool) → Option ℕ → Type 0
FoundLowest n f found = MatchOption found (n ≡ lowest n f) (λ i. (i < n) × (i ≡ lowest n f))

-- What is asked of each event of an offered list at its turn.
use Rattle.std.specs.Prelude.{Bool, ◌&&◌, ℕ, ltb}
use Rattle.rules.specs.declared.Table.{Table}
use Rattle.rules.specs.declared.Marking.{Marking}
use Rattle.rules.specs.Holds.{is_causable}
use Rattle.rules.specs.Enabled.{is_enabled}

-- an event of a list may be caused now: it exists, is causable and is enabled
unfoldable pub may_cause : Table → Marking → ℕ → Bool
may_cause t m e = ltb e t.events && is_causable t e && is_enabled t m e

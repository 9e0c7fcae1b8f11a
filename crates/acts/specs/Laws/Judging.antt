-- What a public call knows once it has judged what it was handed, and has laid the marking out as words. Assumes nothing.
use Rattle.std.specs.Prelude.{◌≡◌, List, ℕ, ◌<◌, ◌≤◌, drop}
use Rattle.std.proofs.Common.{sym, subst, arith}
use Rattle.rules.specs.declared.Table.{Table}
use Rattle.rules.specs.declared.Record.{Record}
use Rattle.rules.specs.declared.Marking.{Marking}
use Rattle.rules.specs.Judge.{judged}
use Rattle.rules.specs.Shapes.Good.{GoodTable, GoodMarking}
use Rattle.rules.proofs.Laws.Judge.{good}
use Rattle.acts.specs.Stands.{Stands}
use Rattle.acts.specs.Laws.Laid.{lay_good}

-- the places of a marking that are not used
abbrev pub unused : Marking → List Record
unused m = drop m.events m.records

module _ (t : Table) (m : Marking) (d : judged t m ≡ 0) where
  pub table_good : GoodTable t
  table_good = (good t m d).table_good

  same : m.events ≡ t.events
  same = (good t m d).marking_good.same_events

  pub few_records : m.events ≤ 64
  few_records = omega (arith, same, table_good.few_events)

  pub some_events : 0 < t.events
  some_events = omega (arith, table_good.some_events)

  -- the words of a marking that is laid out, and the marking that is given back
  pub laid_out : {sets columns : List ℕ} → (GoodMarking m.events m → Stands m.events (unused m) 0 sets columns m)
      → Stands t.events (unused m) 0 sets columns m
  laid_out laid = lay_good (good t m d) laid

  pub given_back : (clock : ℕ) (sets columns : List ℕ) {r after : Marking} → ((k : Marking) → Stands m.events (unused m) clock sets columns k → r ≡ k)
      → Stands t.events (unused m) clock sets columns after → r ≡ after
  given_back clock sets columns {r} {after} given held =
      given after (subst (λ (n : ℕ). Stands n (unused m) clock sets columns after) (sym same) held)

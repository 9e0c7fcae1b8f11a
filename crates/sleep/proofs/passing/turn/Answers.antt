-- A quiet run, and then a guarded tick.
use Rattle.std.proofs.Common.{◌≡◌, ◌∙◌, ap, refl, arith, ◌+◌, ℕ}
use Rattle.rules.specs.declared.Table.{Table}
use Rattle.rules.specs.Guard.{guarded}
use Rattle.acts.specs.declared.derived.Head.{Head}
use Rattle.acts.specs.declared.table_words.TableWords.{TableWords}
use Rattle.acts.specs.Words.{WordsOf}
use Rattle.sleep.specs.Laws.Passing.{passing_asleep, passing_tick}
use Rattle.sleep.proofs.passing.turn.Goals as goal

same_events : {t : Table} {table : TableWords} → WordsOf t table → table.rows.head.events ≡ t.events
same_events w = ap (λ (h : Head). h.events) w.rows.headed

pub returns-then-ticks-marking-clause-passed : goal.returns-then-ticks-marking-clause-passed
returns-then-ticks-marking-clause-passed c = λ t tail m before w now.
    passing_asleep w.rows.good now (same_events w) _ _ c.quiet.ensures.value

pub returns-clause-passed : goal.returns-clause-passed
unfolding guarded
returns-clause-passed c = λ t tail m before w now.
    let asleep = passing_asleep w.rows.good now (same_events w) _ _ c.quiet.ensures.value in
    let acted = c.guarded-more.ensures in
    let stood = c.pass_tick.ensures.stand _ _ _ (acted.taken t tail _ w refl asleep.stands) in
    passing_tick w.rows.good asleep (c.pass_tick.ensures.clock ∙ ap (λ (k : ℕ). k + 1) acted.clock) stood
    (acted.stands t tail _ w refl asleep.stands).1 c.note.ensures (omega arith)

-- Each field is read where it stands.
use mathlib.Core.Path.{◌≡◌, refl, ◌∙◌}
use mathlib.Core.Bool.{cond}
use Rattle.acts.specs.Stands.{age_at, ticks_at}
use Rattle.acts.specs.Laws.Laid.{record_read}
use Rattle.acts.proofs.marking_words.MarkingWords.record_at.Goals as goal
use Rattle.acts.proofs.marking_words.MarkingWords.record_at.Goals.{then-happened, else-happened, then-bounded, else-bounded}

pub returns : goal.returns
returns c =
    let age_read : c.if-happened.result ≡ cond c.has_event-happened.result (age_at c.args.self.now.clock c.args.self.now.columns c.args.e) 0 = elim c.if-happened.branch [
      | then-happened w ↦ w.result-is ∙ w.age_at.ensures ∙ rw w.if-happened.true
      | else-happened w ↦ w.result-is ∙ rw w.if-happened.false
    ] in
    let ticks_read : c.if-bounded.result ≡ cond c.has_event-bounded.result (ticks_at c.args.self.now.clock c.args.self.now.columns c.args.e) 0 = elim c.if-bounded.branch [
      | then-bounded w ↦ w.result-is ∙ w.saturating_sub.ensures ∙ rw w.if-bounded.true
      | else-bounded w ↦ w.result-is ∙ rw w.if-bounded.false
    ] in
    record_read _ _ _ _ _ _ _ _ _ _ _ c.has_event-happened.ensures c.has_event.ensures c.has_event-2.ensures
    c.has_event-bounded.ensures (age_read) (ticks_read) refl

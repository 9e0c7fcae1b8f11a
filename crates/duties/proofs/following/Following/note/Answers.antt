-- Noted where it is followed.
use mathlib.Core.Path.{◌∙◌, sym, ap}
use Rattle.duties.specs.declared.following.Following.{Following}
use Rattle.duties.specs.Inhibition.{words_noted}
use Rattle.duties.proofs.following.Following.note.Goals as goal
use Rattle.duties.proofs.following.Following.note.Goals.{then-is_followed, else-is_followed}

pub returns-then-answers-clause-words : goal.returns-then-answers-clause-words
unfolding words_noted
returns-then-answers-clause-words c =
    elim c.if-is_followed.branch [
      | then-is_followed w ↦ rw (sym c.is_followed.ensures ∙ w.if-is_followed.true) (ap (λ (f : Following). f.words) w.self-is ∙ rw w.adding.ensures)
      | else-is_followed w ↦ rw (sym c.is_followed.ensures ∙ w.if-is_followed.false) (ap (λ (f : Following). f.words) w.self-is)
    ]

pub returns-else-answers-clause-words : goal.returns-else-answers-clause-words
unfolding words_noted
returns-else-answers-clause-words c =
    elim c.if-is_followed.branch [
      | then-is_followed w ↦ rw (sym c.is_followed.ensures ∙ w.if-is_followed.true) (ap (λ (f : Following). f.words) w.self-is ∙ rw w.adding.ensures)
      | else-is_followed w ↦ rw (sym c.is_followed.ensures ∙ w.if-is_followed.false) (ap (λ (f : Following). f.words) w.self-is)
    ]

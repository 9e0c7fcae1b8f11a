-- Reached from the due events by the inhibitors that are missing or pending.
use Rattle.std.proofs.Common.{◌∙◌, ap, rules, sym}
use Rattle.rules.proofs.Laws.Bitwise.{has_and}
use Rattle.acts.specs.declared.derived.Head.{Head}
use Rattle.acts.specs.Laws.Stands.{stands_events}
use Rattle.duties.specs.Inhibition.{followed_in}
use Rattle.duties.specs.Laws.Followed.{needed_reached, needed_none}
use Rattle.duties.specs.Laws.Sets.{missing_told, waiting_told, stands_of}
use Rattle.duties.proofs.guard.needed.Goals as goal

pub returns-then-due-eq0 : goal.returns-then-due-eq0
returns-then-due-eq0 c = λ t tail m of stands.
    let words = c.args.marking.now in
    needed_none t of.good _ of.derived m (stands_events _ tail _ words.sets words.columns m stands) _
    (c.due-due.ensures tail m (stands_of (sym (ap (λ (h : Head). h.events) of.headed)) stands)) c.if-due-eq0.true

pub returns : goal.returns
returns c = λ t tail m of stands.
    let words = c.args.marking.now in
    needed_reached t of.good _ of.derived m (stands_events _ tail _ words.sets words.columns m stands) _ _
    (λ x b. c.without-missing.ensures x ∙ missing_told _ tail _ words.sets words.columns m stands x b)
    (λ x b. has_and _ _ x ∙ waiting_told _ tail _ words.sets words.columns m stands x b)
    _ _ (c.due-due.ensures tail m (stands_of (sym (ap (λ (h : Head). h.events) of.headed)) stands))
    (c.reached.ensures (followed_in c.args.rows.now.words _ _) (λ e w b told. search rules))

-- By whether the event is included.
use mathlib.Core.Path.{◌∙◌, subst, sym}
use Rattle.acts.specs.Words.{StandFor}
use Rattle.acts.specs.Laws.Happen.{head_firm}
use Rattle.duties.specs.Laws.Sets.{included_told}
use Rattle.duties.specs.Laws.Taking.{taken_goes, taken_stays}
use Rattle.duties.proofs.guard.take.Goals as goal

pub returns-then-included-clause-executed : goal.returns-then-included-clause-executed
returns-then-included-clause-executed c = λ t tail m of b stands.
    let words = c.args.marking.now in
    c.has_event-included.ensures ∙ included_told _ tail _ words.sets words.columns m stands _ b

pub returns-then-included-clause-stand : goal.returns-then-included-clause-stand
returns-then-included-clause-stand c = λ t tail m of b stands.
    let words = c.args.marking.now in
    let goes = sym (included_told _ tail _ words.sets words.columns m stands _ b) ∙ sym c.has_event-included.ensures ∙ c.if-included.true in
    subst (StandFor t.events tail c.execute.new.self) (taken_goes t m c.args.e goes)
    (c.execute.ensures.stand t tail m (c.row.ensures t of) b (head_firm _ t of.rows.headed) stands)

pub returns-else-included-clause-executed : goal.returns-else-included-clause-executed
returns-else-included-clause-executed c = λ t tail m of b stands.
    let words = c.args.marking.now in
    c.has_event-included.ensures ∙ included_told _ tail _ words.sets words.columns m stands _ b

pub returns-else-included-clause-stand : goal.returns-else-included-clause-stand
returns-else-included-clause-stand c = λ t tail m of b stands.
    let words = c.args.marking.now in
    let stays = sym (included_told _ tail _ words.sets words.columns m stands _ b) ∙ sym c.has_event-included.ensures ∙ c.if-included.false in
    subst (StandFor t.events tail words) (taken_stays t m c.args.e stays) stands

-- Its fields are those of the marking that the words stand for.
use mathlib.Core.Path.{◌∙◌, ap, sym}
use Rattle.rules.specs.declared.Marking.{Marking}
use Rattle.acts.specs.Stands.{marking_in}
use Rattle.acts.proofs.marking_words.MarkingWords.marking.Goals as goal

pub returns : goal.returns
unfolding marking_in
returns c after stands = ap {B = Marking} (λ rs. record { records = rs; events = c.args.laid_out.now.events }) c.give.ensures ∙ sym stands.is

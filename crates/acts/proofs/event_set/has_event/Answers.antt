-- The shifted word's last digit is the digit of the definition.
use borrow.Author.Rules.{rules}
use Rattle.rules.specs.EventSet.{has}
use Rattle.acts.proofs.event_set.has_event.Goals as goal

pub returns : goal.returns
unfolding has
returns c = search rules

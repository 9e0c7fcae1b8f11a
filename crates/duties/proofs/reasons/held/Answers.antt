-- Chosen by whether there is an inhibitor.
use Rattle.std.proofs.Common.{rules, tests, eqb, not}
use Rattle.duties.specs.Inhibition.{inhibitors_in}
use Rattle.duties.proofs.reasons.held.Goals as goal

pub returns : goal.returns
returns c = c.chosen.ensures (λ e. not (eqb (inhibitors_in c.args.rows.now.words e) 0)) (λ e b small told. search (rules, tests))

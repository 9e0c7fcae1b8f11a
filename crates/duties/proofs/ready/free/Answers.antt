-- Chosen by whether an inhibitor is left.
use Rattle.std.proofs.Common.{rules, tests, eqb}
use Rattle.duties.specs.Inhibition.{followed_in}
use Rattle.duties.proofs.ready.free.Goals as goal

pub returns : goal.returns
returns c = c.chosen.ensures (λ e. eqb (followed_in c.args.rows.now.words c.args.untaken c.args.untaken e) 0) (λ e b small told. search (rules, tests))

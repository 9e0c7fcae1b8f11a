-- What is taken is the lowest.
use native.Mathlib.Omega.{arith}
use Rattle.rules.proofs.Laws.Time.{one_shifted}
use Rattle.acts.specs.Laws.Members.{lowest_taken}
use Rattle.acts.proofs.events.EventsIterator.next.Goals as goal

pub overflow_shl-self : goal.overflow_shl-self
overflow_shl-self c = (lowest_taken _ (omega arith) c.if-self-eq0.false _ c.lowest-e.ensures).small

pub overflow_sub-self : goal.overflow_sub-self
overflow_sub-self c =
    let t = lowest_taken c.args.self.now.left (omega arith) c.if-self-eq0.false c.lowest-e.result c.lowest-e.ensures in
    rw (one_shifted _ t.small) t.worth

pub returns-clause-steps : goal.returns-clause-steps
returns-clause-steps c =
    let t = lowest_taken c.args.self.now.left (omega arith) c.if-self-eq0.false c.lowest-e.result c.lowest-e.ensures in
    rw (one_shifted _ t.small) t

pub returns-clause-goes : goal.returns-clause-goes
returns-clause-goes c =
    let t = lowest_taken c.args.self.now.left (omega arith) c.if-self-eq0.false c.lowest-e.result c.lowest-e.ensures in
    rw (one_shifted _ t.small) (record { on = λ _. (tt, tt, t.less); keeps = tt; rests = λ _. tt })

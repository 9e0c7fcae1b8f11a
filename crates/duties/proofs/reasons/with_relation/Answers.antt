-- An event to which such relations lead tells that there is one.
use mathlib.Core.Path.{sym}
use Rattle.duties.specs.Laws.Ends.{ends_none, ends_some}
use Rattle.duties.specs.Laws.Reasons.{reason_none, reason_at}
use Rattle.duties.proofs.reasons.with_relation.Goals as goal

pub returns-then-ends-ne0 : goal.returns-then-ends-ne0
returns-then-ends-ne0 c = λ t f good ends first.
    sym (reason_at _ t.count _ f _ (sym first, rw first (ends_some t good f c.args.ends ends c.if-ends-ne0.true)))

pub returns : goal.returns
returns c = λ t f good ends first. sym (reason_none _ t.count f _ (ends_none t f c.args.ends ends c.if-ends-ne0.false))

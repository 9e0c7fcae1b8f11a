-- Reason 1, then the others of the closure.
use Rattle.std.proofs.Common.{◌≡◌, ◌∙◌, Err, rules, ap, sym}
use Rattle.rules.proofs.Laws.Closure.{closure_fits}
use Rattle.acts.specs.declared.derived.Head.{Head}
use Rattle.duties.specs.Reasons.{verdict_by, verdict_of}
use Rattle.duties.specs.Laws.Reasons.{one_none, one_at}
use Rattle.duties.specs.Laws.Sets.{stands_of}
use Rattle.duties.proofs.reasons.found.Goals as goal

pub returns-in_err-with_event : goal.returns-in_err-with_event
returns-in_err-with_event c = λ t tail m of stands.
    let is : c.from_residual.result ≡ Err c.in_err-with_event.field-0.0 = search rules in
    ap (verdict_by t) is ∙ one_at t m of.good _ (c.unreportable.ensures t tail m of stands) c.in_err-with_event.field-0.0 c.in_err-with_event.ensures

pub returns : goal.returns
returns c = λ t tail m of stands.
    let events = ap (λ (h : Head). h.events) of.headed in
    let following = c.of_rows-following.ensures t of in
    let closed = c.closure-closed.ensures t tail m following (sym events) (stands_of (sym events) stands) in
    c.found_of.ensures t of following (rw closed (closure_fits t of.good m)) ∙ ap (verdict_of t) closed
    ∙ sym (one_none t m of.good _ (c.unreportable.ensures t tail m of stands) c.in_ok-with_event.ensures)

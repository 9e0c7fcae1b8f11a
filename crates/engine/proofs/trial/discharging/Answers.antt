-- Some event is due after the events that were caused, or none is.
use Rattle.std.proofs.Common.{arith, refl, sym, ◌∙◌}
use Rattle.engine.specs.Laws.Trial.{stands_headed, start_found, none_found}
use Rattle.engine.proofs.trial.discharging.Goals as goal

pub returns-then-due-eq0-clause-found : goal.returns-then-due-eq0-clause-found
returns-then-due-eq0-clause-found c t tail m done of stands =
    let w = c.tried-count.ensures.stands t tail m done of stands in
    let is = start_found w.2 (sym (c.due.ensures tail w.0 (stands_headed of tail c.tried-count.new.marking w.0 w.1)) ∙ c.if-due-eq0.true) in
    rw is (c.tried-count.ensures.upper_bound, refl)

pub returns-else-due-eq0-clause-none : goal.returns-else-due-eq0-clause-none
returns-else-due-eq0-clause-none c t tail m done of stands =
    let w = c.tried-count.ensures.stands t tail m done of stands in
    let none = none_found w.2 (λ z. c.if-due-eq0.false (c.due.ensures tail w.0 (stands_headed of tail c.tried-count.new.marking w.0 w.1) ∙ z)) in
    omega (arith, none)

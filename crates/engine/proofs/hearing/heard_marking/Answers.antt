-- The marking's part, and what follows it.
use Rattle.std.proofs.Common.{rules, refl, subst, List, ℕ}
use Rattle.rules.proofs.Laws.Results.{refused_number}
use Rattle.engine.specs.Heard.{Heard}
use Rattle.engine.specs.Laws.Heard.{marking_refused, marking_read, steps_there}
use Rattle.engine.specs.Laws.Hearing.{heard_refused}
use Rattle.engine.proofs.hearing.heard_marking.Goals as goal

pub returns-in_err-m : goal.returns-in_err-m
returns-in_err-m c =
    let refusal = c.in_err-m.field-0.0 in
    heard_refused _ _ _ refusal (search rules)
    (marking_refused c.args.t.now c.args.rest.now c.args.beyond c.min-size.result (search rules) _ c.in_err-m.ensures (refused_number refusal))
    refl

pub heard_steps-requires-clause-enough : goal.heard_steps-requires-clause-enough
heard_steps-requires-clause-enough c =
    steps_there c.args.t.now c.args.rest.now c.args.beyond c.min-size.result (search rules) _ c.in_ok-m.ensures c.requires.few c.requires.enough

pub returns : goal.returns
returns c =
    let bytes = marking_read c.args.t.now c.args.rest.now c.args.beyond c.min-size.result (search rules) _ c.in_ok-m.ensures refl in
    subst (λ (l : List ℕ). Heard l c.args.output.now c.heard_steps.result c.heard_steps.new.output) bytes c.heard_steps.ensures

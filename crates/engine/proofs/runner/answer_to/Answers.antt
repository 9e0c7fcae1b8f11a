-- A refusal's number is the answer.
use Rattle.std.proofs.Common.{rules, ◌≡◌}
use Rattle.rules.specs.Results.{refusal_number}
use Rattle.engine.proofs.runner.answer_to.Goals as goal

pub returns-in-Err-clause-turned : goal.returns-in-Err-clause-turned
returns-in-Err-clause-turned c t tail m of accepts stands =
    let is : c.into.result ≡ refusal_number c.in-Err.refusal = search rules in
    rw is (c.in-Err.ensures.turned t tail m of accepts stands)

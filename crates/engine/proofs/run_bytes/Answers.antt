-- Judged and measured; the steps are told one by one.
use Rattle.std.proofs.Common.{rules, arith, sym, ◌∙◌, ◌/◌, ◌*◌, ◌+◌, ◌<◌, length}
use Rattle.std.proofs.Math.Seq.{length-take-le}
use Rattle.rules.proofs.Laws.Trace.{bytes_granted, steps_length, steps_at}
use Rattle.rules.specs.Trace.{steps_in}
use Rattle.engine.specs.Laws.Refused.{run_bytes_refused, run_bytes_answers_refused}
use Rattle.engine.specs.Laws.Done.{run_bytes_done, run_bytes_answers_done}
use Rattle.engine.proofs.run_bytes.Goals as goal

pub returns-in_err-bytes_granted : goal.returns-in_err-bytes_granted
returns-in_err-bytes_granted c =
    let refusal = c.in_err-bytes_granted.field-0.0 in record {
      answer = run_bytes_refused c.args.t.now c.args.m.now refusal (search rules) _ _ c.in_err-bytes_granted.ensures;
      answers = run_bytes_answers_refused c.args.t.now c.args.m.now refusal _ _ c.in_err-bytes_granted.ensures;
    }

pub slice_bounds-played-end : goal.slice_bounds-played-end
slice_bounds-played-end c = (bytes_granted c.args.t.now c.args.m.now _ _ (sym c.in_ok-bytes_granted.ensures)).1.0

pub slice_bounds-played-end-2 : goal.slice_bounds-played-end-2
slice_bounds-played-end-2 c = sym (length-take-le _ _ (bytes_granted c.args.t.now c.args.m.now c.args.steps.now _ (sym c.in_ok-bytes_granted.ensures)).1.0)

pub played-requires-clause-judged : goal.played-requires-clause-judged
played-requires-clause-judged c = (bytes_granted c.args.t.now c.args.m.now c.args.steps.now _ (sym c.in_ok-bytes_granted.ensures)).0

pub played-requires-clause-few : goal.played-requires-clause-few
played-requires-clause-few c =
    let granted = bytes_granted c.args.t.now c.args.m.now c.args.steps.now _ (sym c.in_ok-bytes_granted.ensures) in
    rw (length-take-le (length c.args.steps.now / 2) c.args.answers.now granted.1.0) granted.1.1

pub played-requires-clause-callable : goal.played-requires-clause-callable
played-requires-clause-callable c i more =
    let granted = bytes_granted c.args.t.now c.args.m.now c.args.steps.now _ (sym c.in_ok-bytes_granted.ensures) in
    let here : i < length c.args.steps.now / 2 = rw (← length-take-le (length c.args.steps.now / 2) c.args.answers.now granted.1.0) more in
    let first : 2 * i + 1 < length c.args.steps.now = omega (arith, here) in
    search rules parts 8

pub returns : goal.returns
returns c =
    let granted = bytes_granted c.args.t.now c.args.m.now c.args.steps.now _ (sym c.in_ok-bytes_granted.ensures) in
    let sized = sym (length-take-le (length c.args.steps.now / 2) c.args.answers.now granted.1.0) in
    let told = c.played.ensures (steps_in c.args.steps.now) (steps_length c.args.steps.now ∙ sized)
    (λ i s more is. let at = steps_at c.args.steps.now i (rw (← steps_length c.args.steps.now) more) in rw at (search rules)) in record {
      answer = run_bytes_done c.args.t.now c.args.m.now c.args.steps.now c.args.answers.now c.in_ok-bytes_granted.ensures told.0;
      answers = run_bytes_answers_done c.args.t.now c.args.m.now c.args.steps.now c.args.answers.now c.in_ok-bytes_granted.ensures told.1;
    }

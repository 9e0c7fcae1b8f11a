-- Judged, then the lengths; the steps are told one by one.
use Rattle.std.proofs.Common.{rules, sym, length}
use Rattle.std.proofs.Math.Seq.{length-take-le}
use Rattle.rules.proofs.Laws.Trace.{trace_granted}
use Rattle.engine.specs.Laws.Refused.{at_judging, after_judging, run_refused, run_answers_refused}
use Rattle.engine.specs.Laws.Done.{run_done, run_answers_done}
use Rattle.engine.proofs.run.Goals as goal

pub returns-in_err-judge : goal.returns-in_err-judge
returns-in_err-judge c =
    let refusal = c.in_err-judge.field-0.0 in
    let is = at_judging c.args.t.now c.args.m.now refusal _ c.in_err-judge.ensures in record {
      answer = run_refused c.args.t.now c.args.m.now refusal (search rules) _ _ is;
      answers = run_answers_refused c.args.t.now c.args.m.now refusal _ _ is;
    }

pub returns-in_err-granted : goal.returns-in_err-granted
returns-in_err-granted c =
    let refusal = c.in_err-granted.field-0.0 in
    let is = after_judging c.args.t.now c.args.m.now refusal _ c.in_ok-judge.ensures c.in_err-granted.ensures in record {
      answer = run_refused c.args.t.now c.args.m.now refusal (search rules) _ _ is;
      answers = run_answers_refused c.args.t.now c.args.m.now refusal _ _ is;
    }

pub slice_bounds-played-end : goal.slice_bounds-played-end
slice_bounds-played-end c = (trace_granted _ _ (sym c.in_ok-granted.ensures)).0

pub slice_bounds-played-end-2 : goal.slice_bounds-played-end-2
slice_bounds-played-end-2 c = sym (length-take-le _ _ (trace_granted _ _ (sym c.in_ok-granted.ensures)).0)

pub played-requires-clause-few : goal.played-requires-clause-few
played-requires-clause-few c =
    let granted = trace_granted _ _ (sym c.in_ok-granted.ensures) in
    rw (length-take-le (length c.args.steps.now) c.args.answers.now granted.0) granted.1

pub returns : goal.returns
returns c =
    let sized = sym (length-take-le _ _ (trace_granted _ _ (sym c.in_ok-granted.ensures)).0) in
    let told = c.played.ensures c.args.steps.now sized (λ i s more is. search rules) in record {
      answer = run_done c.args.t.now c.args.m.now c.in_ok-judge.ensures c.args.steps.now c.args.answers.now c.in_ok-granted.ensures told.0;
      answers = run_answers_done c.args.t.now c.args.m.now c.in_ok-judge.ensures c.args.steps.now c.args.answers.now c.in_ok-granted.ensures told.1;
    }

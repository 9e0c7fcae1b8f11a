-- The end marking is put back; the answers are the runner's.
use Rattle.std.proofs.Common.{rules, length}
use Rattle.rules.specs.Trace.{run_bytes}
use Rattle.duty.specs.Laws.Kept.{run_judged, answers_told}
use Rattle.duty.specs.Laws.Answered.{acted, listed}
use Rattle.duty.proofs.duty_run.Goals as goal

pub returns : goal.returns
returns c =
    let steps = c.args.steps.now in
    let room = length c.args.answers.now in
    let put =
    acted _ _ (λ t m. run_bytes t m steps room) (λ t m h. run_judged t m h steps room) _ c.on_lent-answer.ensures.unread (λ z. search rules)
    c.put_back.ensures.number c.put_back.ensures.bytes in
    record {
      number = put.0;
      marking = put.1;
      answers = listed _ _ _ put.0 (answers_told _ _ steps _) (λ z. search rules) c.on_lent-answer.ensures.left;
    }

-- `image::judge::records` meets its contract: none of the first i records gives a number.
use Rattle.std.proofs.Common.{arith}
use Rattle.std.proofs.lemmas.Grind.{common_steps}
use Rattle.rules.specs.Holds.{empty_record}
use Rattle.rules.specs.Judge.{record_number}
use Rattle.rules.proofs.Laws.Numbers.{first_none}
use Rattle.rules.proofs.Laws.Results.{refused_number}
use Rattle.image.specs.Laws.Searched.{refused_at, done_at}
use Rattle.image.proofs.judge.records.Goals as goal

pub loop-r-init : goal.loop-r-init
loop-r-init c = first_none _

pub returns-in_err-record : goal.returns-in_err-record
returns-in_err-record c =
    let m = c.args.m.now in
    let first =
    refused_at record_number m.records empty_record m.events c.loop-r.r-index (omega arith) c.loop-r.invariant
    c.in_err-record.ensures (refused_number c.in_err-record.field-0.0) in
    grind (arith, common_steps, first)

pub loop-r-preserved : goal.loop-r-preserved
loop-r-preserved c =
    let m = c.args.m.now in
    done_at record_number m.records empty_record m.events c.loop-r.r-index (omega arith) c.loop-r.invariant c.in_ok-record.ensures

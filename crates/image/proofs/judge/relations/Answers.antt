-- `image::judge::relations` meets its contract: none of the first i relations gives a number.
use Rattle.std.proofs.Common.{arith}
use Rattle.std.proofs.lemmas.Grind.{common_steps}
use Rattle.rules.specs.Holds.{empty_relation}
use Rattle.rules.specs.Judge.{relation_number}
use Rattle.rules.proofs.Laws.Numbers.{first_none}
use Rattle.rules.proofs.Laws.Results.{refused_number}
use Rattle.image.specs.Laws.Searched.{refused_at, done_at}
use Rattle.image.proofs.judge.relations.Goals as goal

pub loop-k-init : goal.loop-k-init
loop-k-init c = first_none _

pub returns-in_err-relation : goal.returns-in_err-relation
returns-in_err-relation c =
    let t = c.args.t.now in
    let first =
    refused_at (relation_number t.events) t.relations empty_relation t.count c.loop-k.k-index (omega arith) c.loop-k.invariant
    c.in_err-relation.ensures (refused_number c.in_err-relation.field-0.0) in
    grind (arith, common_steps, first)

pub loop-k-preserved : goal.loop-k-preserved
loop-k-preserved c =
    let t = c.args.t.now in
    done_at (relation_number t.events) t.relations empty_relation t.count c.loop-k.k-index (omega arith) c.loop-k.invariant c.in_ok-relation.ensures

-- Judged first, so age and time are within the limit, then the relation.
use Rattle.std.proofs.Common.{rules, sym, arith}
use Rattle.rules.proofs.Laws.Judge.{good}
use Rattle.rules.proofs.Laws.Granted.{right_told, margin_told_lem}
use Rattle.rules.proofs.Laws.InNumbers.{margin_whole}
use Rattle.engine.specs.Laws.Refused.{at_judging, after_judging, margin_refused}
use Rattle.engine.specs.Laws.Done.{is_there, margin_done}
use Rattle.engine.proofs.margin.Goals as goal

pub returns-in_err-judge : goal.returns-in_err-judge
returns-in_err-judge c =
    let refusal = c.in_err-judge.field-0.0 in
    let whole = margin_whole c.args.t.now c.args.m.now c.args.relation (margin_refused c.args.t.now c.args.m.now refusal (search rules) _ (at_judging c.args.t.now c.args.m.now refusal _ c.in_err-judge.ensures)) in
    record { answer = whole.0; told = whole.1 }

pub returns-in_err-exists : goal.returns-in_err-exists
returns-in_err-exists c =
    let refusal = c.in_err-exists.field-0.0 in
    let whole = margin_whole c.args.t.now c.args.m.now c.args.relation (margin_refused c.args.t.now c.args.m.now refusal (search rules) _ (after_judging c.args.t.now c.args.m.now refusal _ c.in_ok-judge.ensures c.in_err-exists.ensures)) in
    record { answer = whole.0; told = whole.1 }

pub offset_bounds-t-relation : goal.offset_bounds-t-relation
offset_bounds-t-relation c =
    let there = is_there _ _ c.in_ok-exists.ensures in
    omega (arith, there, (good c.args.t.now c.args.m.now (sym c.in_ok-judge.ensures)).table_good.few_relations)

pub bounds-t-relation : goal.bounds-t-relation
bounds-t-relation c =
    let there = is_there _ _ c.in_ok-exists.ensures in
    omega (arith, there, (good c.args.t.now c.args.m.now (sym c.in_ok-judge.ensures)).table_good.few_relations)

pub bounds-m-k : goal.bounds-m-k
bounds-m-k c = right_told (good c.args.t.now c.args.m.now (sym c.in_ok-judge.ensures)).table_good _ (is_there _ _ c.in_ok-exists.ensures)

pub margin_of-requires : goal.margin_of-requires
margin_of-requires c = margin_told_lem (good c.args.t.now c.args.m.now (sym c.in_ok-judge.ensures)) _ (is_there _ _ c.in_ok-exists.ensures)

pub returns : goal.returns
returns c =
    let whole = margin_whole c.args.t.now c.args.m.now c.args.relation (margin_done c.args.t.now c.args.m.now c.in_ok-judge.ensures _ c.margin_of.result c.in_ok-exists.ensures c.margin_of.ensures) in
    record { answer = whole.0; told = whole.1 }

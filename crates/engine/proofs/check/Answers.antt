-- Judged first, then the verdict that the words come to.
use Rattle.std.proofs.Common.{rules, sym, ◌∙◌}
use Rattle.rules.proofs.Laws.InNumbers.{check_whole}
use Rattle.acts.specs.Laws.Judging.{unused, table_good, few_records}
use Rattle.engine.specs.Laws.Judging.{stands_laid}
use Rattle.engine.specs.Laws.Refused.{check_refused, check_rejected}
use Rattle.engine.specs.Laws.Done.{check_done}
use Rattle.engine.proofs.check.Goals as goal

pub returns-in_err-judge : goal.returns-in_err-judge
returns-in_err-judge c =
    let whole = check_whole c.args.t.now c.args.m.now (check_refused c.args.t.now c.args.m.now c.in_err-judge.field-0.0 (search rules) c.in_err-judge.ensures) in
    record { answer = whole.0; told = whole.1 }

pub of-requires : goal.of-requires
of-requires c = table_good c.args.t.now c.args.m.now (sym c.in_ok-judge.ensures)

pub of-requires-2 : goal.of-requires-2
of-requires-2 c = few_records c.args.t.now c.args.m.now (sym c.in_ok-judge.ensures)

pub verdict-requires : goal.verdict-requires
verdict-requires c = table_good c.args.t.now c.args.m.now (sym c.in_ok-judge.ensures)

pub returns-in_err-verdict : goal.returns-in_err-verdict
returns-in_err-verdict c =
    let stands = stands_laid c.args.t.now c.args.m.now (sym c.in_ok-judge.ensures) c.of-2.result c.of-2.ensures.stand in
    let told = c.found-found.ensures c.args.t.now (unused c.args.m.now) c.args.m.now c.of.ensures.rows stands in
    let whole = check_whole c.args.t.now c.args.m.now (check_rejected c.args.t.now c.args.m.now c.in_err-verdict.field-0.0 (search rules) c.in_ok-judge.ensures (c.in_err-verdict.ensures ∙ told)) in
    record { answer = whole.0; told = whole.1 }

pub returns : goal.returns
returns c =
    let stands = stands_laid c.args.t.now c.args.m.now (sym c.in_ok-judge.ensures) c.of-2.result c.of-2.ensures.stand in
    let told = c.found-found.ensures c.args.t.now (unused c.args.m.now) c.args.m.now c.of.ensures.rows stands in
    let whole = check_whole c.args.t.now c.args.m.now (check_done c.args.t.now c.args.m.now c.in_ok-judge.ensures (c.in_ok-verdict.ensures ∙ told)) in
    record { answer = whole.0; told = whole.1 }

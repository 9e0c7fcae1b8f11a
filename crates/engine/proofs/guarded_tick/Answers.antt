-- Judged first, then by the verdict that the words come to; what is accepted is done in the words, and given back.
use Rattle.std.proofs.Common.{rules, refl, sym, ◌∙◌}
use Rattle.rules.specs.declared.verdict.CheckError.TheVariants.{Refused, Rejected}
use Rattle.acts.specs.Laws.Judging.{unused, table_good, few_records}
use Rattle.engine.specs.Laws.Judging.{stands_laid, stands_given}
use Rattle.engine.specs.Laws.Refused.{check_refused, check_rejected, guarded_refused}
use Rattle.engine.specs.Laws.Done.{guarded_done}
use Rattle.engine.proofs.guarded_tick.Goals as goal

pub returns-in_err-judge : goal.returns-in_err-judge
returns-in_err-judge c =
    let refusal = c.in_err-judge.field-0.0 in
    guarded_refused c.args.t.now c.args.m.now (Refused refusal) (search rules) (check_refused c.args.t.now c.args.m.now refusal refl c.in_err-judge.ensures)

pub of-table-requires : goal.of-table-requires
of-table-requires c = table_good c.args.t.now c.args.m.now (sym c.in_ok-judge.ensures)

pub of-marking-requires : goal.of-marking-requires
of-marking-requires c = few_records c.args.t.now c.args.m.now (sym c.in_ok-judge.ensures)

pub verdict-requires : goal.verdict-requires
verdict-requires c = table_good c.args.t.now c.args.m.now (sym c.in_ok-judge.ensures)

pub returns-in_err-verdict : goal.returns-in_err-verdict
returns-in_err-verdict c =
    let rejection = c.in_err-verdict.field-0.0 in
    let stands = stands_laid c.args.t.now c.args.m.now (sym c.in_ok-judge.ensures) c.of-marking.result c.of-marking.ensures.stand in
    let told = c.found.ensures c.args.t.now (unused c.args.m.now) c.args.m.now c.of-table.ensures.rows stands in
    guarded_refused c.args.t.now c.args.m.now (Rejected rejection) (search rules) (check_rejected c.args.t.now c.args.m.now rejection refl c.in_ok-judge.ensures (c.in_err-verdict.ensures ∙ told))

pub marking-requires : goal.marking-requires
marking-requires c = few_records c.args.t.now c.args.m.now (sym c.in_ok-judge.ensures)

pub returns : goal.returns
returns c =
    let done = sym c.in_ok-judge.ensures in
    let stands = stands_laid c.args.t.now c.args.m.now done c.of-marking.result c.of-marking.ensures.stand in
    let told = c.found.ensures c.args.t.now (unused c.args.m.now) c.args.m.now c.of-table.ensures.rows stands in
    let taken = c.guarded-count.ensures.taken c.args.t.now (unused c.args.m.now) c.args.m.now c.of-table.ensures refl stands in
    let listed = (c.guarded-count.ensures.stands c.args.t.now (unused c.args.m.now) c.args.m.now c.of-table.ensures refl stands).1 in
    let after = c.pass_tick.ensures.stand c.args.t.now.events (unused c.args.m.now) _ taken in
    guarded_done c.args.t.now c.args.m.now c.in_ok-judge.ensures (c.in_ok-verdict.ensures ∙ told) listed (stands_given c.args.t.now c.args.m.now done c.pass_tick.new.self c.marking.ensures after)

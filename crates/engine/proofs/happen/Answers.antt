-- Judged first; the event's words and the marking's are made, the event happens, and the marking that the words then stand for is given back.
use Rattle.std.proofs.Common.{rules, sym, ap}
use Rattle.rules.proofs.Laws.Judge.{good}
use Rattle.rules.proofs.Laws.Granted.{event_fits}
use Rattle.acts.specs.Laws.Judging.{unused, table_good, few_records}
use Rattle.engine.specs.Laws.Judging.{stands_laid, stands_given}
use Rattle.engine.specs.Laws.Refused.{at_judging, after_judging, at_event, after_event, happen_refused}
use Rattle.engine.specs.Laws.Done.{is_there, happen_done}
use Rattle.engine.proofs.happen.Goals as goal

pub returns-in_err-judge : goal.returns-in_err-judge
returns-in_err-judge c =
    let refusal = c.in_err-judge.field-0.0 in
    happen_refused c.args.t.now c.args.m.now refusal (search rules) _ (at_judging c.args.t.now c.args.m.now refusal _ c.in_err-judge.ensures)

pub returns-in_err-exists : goal.returns-in_err-exists
returns-in_err-exists c =
    let refusal = c.in_err-exists.field-0.0 in
    happen_refused c.args.t.now c.args.m.now refusal (search rules) _
    (after_judging c.args.t.now c.args.m.now refusal _ c.in_ok-judge.ensures (at_event c.args.t.now c.args.m.now refusal _ c.in_err-exists.ensures))

pub of-own-requires : goal.of-own-requires
of-own-requires c = table_good c.args.t.now c.args.m.now (sym c.in_ok-judge.ensures)

pub of-marking-requires : goal.of-marking-requires
of-marking-requires c = few_records c.args.t.now c.args.m.now (sym c.in_ok-judge.ensures)

pub happen-requires : goal.happen-requires
happen-requires c = event_fits (good _ _ (sym c.in_ok-judge.ensures)) (is_there _ _ c.in_ok-exists.ensures)

pub returns-in_err-happen : goal.returns-in_err-happen
returns-in_err-happen c =
    let done = sym c.in_ok-judge.ensures in
    let refusal = c.in_err-happen.field-0.0 in
    let stands = stands_laid c.args.t.now c.args.m.now done c.of-marking.result c.of-marking.ensures.stand in
    let row = c.row.ensures c.args.t.now c.args.event (table_good c.args.t.now c.args.m.now done) c.of-own.ensures in
    let number = c.in_err-happen.ensures.number c.args.t.now (unused c.args.m.now) c.args.m.now row (is_there _ _ c.in_ok-exists.ensures) stands in
    happen_refused c.args.t.now c.args.m.now refusal (search rules) _ (after_judging c.args.t.now c.args.m.now refusal _ c.in_ok-judge.ensures (after_event c.args.t.now c.args.m.now refusal _ c.in_ok-exists.ensures number))

pub marking-requires : goal.marking-requires
marking-requires c = few_records c.args.t.now c.args.m.now (sym c.in_ok-judge.ensures)

pub returns : goal.returns
returns c =
    let done = sym c.in_ok-judge.ensures in
    let there = is_there _ _ c.in_ok-exists.ensures in
    let stands = stands_laid c.args.t.now c.args.m.now done c.of-marking.result c.of-marking.ensures.stand in
    let row = c.row.ensures c.args.t.now c.args.event (table_good c.args.t.now c.args.m.now done) c.of-own.ensures in
    let number = c.in_ok-happen.ensures.number c.args.t.now (unused c.args.m.now) c.args.m.now row there stands in
    let after = c.in_ok-happen.ensures.stand c.args.t.now (unused c.args.m.now) c.args.m.now row there (ap (λ h. h.firm) c.of.ensures) stands in
    happen_done c.args.t.now c.args.m.now c.in_ok-judge.ensures _ c.in_ok-exists.ensures number (stands_given c.args.t.now c.args.m.now done c.happen.new.self c.marking.ensures after)

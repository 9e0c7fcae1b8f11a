-- Refusals are told in one byte; steps that are granted are played, and the end marking stands behind their answers.
use Rattle.std.proofs.Common.{rules, arith, refl, sym, ap, ◌∙◌}
use Rattle.engine.specs.Heard.{after_marking}
use Rattle.engine.specs.Laws.Refused.{run_bytes_answers_refused}
use Rattle.engine.specs.Laws.Heard.{steps_long}
use Rattle.engine.specs.Laws.Hearing.{heard_refused, run_refused_number, run_heard, few_run, room_behind, not_refused, run_told}
use Rattle.engine.proofs.hearing.heard_steps.Goals as goal

pub returns-then-beyond-ne0 : goal.returns-then-beyond-ne0
returns-then-beyond-ne0 c =
    (steps_long c.args.t.now c.args.m.now c.args.steps.now c.args.beyond c.if-beyond-ne0.true c.requires.enough c.too_long.ensures, refl)

pub returns-in_err-after : goal.returns-in_err-after
returns-in_err-after c =
    let refusal = c.in_err-after.field-0.0 in
    let is = run_refused_number c.args.t.now c.args.m.now c.args.steps.now c.args.output.now c.requires.room refusal c.in_err-after.ensures.answer in
    heard_refused _ _ _ refusal (search rules)
    (ap (after_marking c.args.t.now c.args.m.now c.args.steps.now) c.if-beyond-ne0.false ∙ run_heard c.args.t.now c.args.m.now c.args.steps.now c.args.output.now c.requires.room refusal is)
    (c.in_err-after.ensures.answers ∙ sym (run_bytes_answers_refused c.args.t.now c.args.m.now refusal c.args.steps.now c.args.output.now is))

pub slice_bounds-write_marking-count : goal.slice_bounds-write_marking-count
slice_bounds-write_marking-count c =
    room_behind c.args.t.now c.args.m.now c.args.steps.now c.args.output.now c.requires.room c.in_ok-after.after c.run_bytes.new.answers c.in_ok-after.ensures.answer c.in_ok-after.ensures.answers

pub slice_bounds-write_marking-start : goal.slice_bounds-write_marking-start
slice_bounds-write_marking-start c =
    let there = room_behind c.args.t.now c.args.m.now c.args.steps.now c.args.output.now c.requires.room c.in_ok-after.after c.run_bytes.new.answers c.in_ok-after.ensures.answer c.in_ok-after.ensures.answers in
    omega (arith, there)

pub returns-in_err-write_marking : goal.returns-in_err-write_marking
returns-in_err-write_marking c =
    absurd (not_refused c.args.t.now c.args.m.now c.args.steps.now c.args.output.now c.requires.room c.in_ok-after.after c.run_bytes.new.answers c.in_ok-after.ensures.answer c.in_ok-after.ensures.answers c.in_err-write_marking.field-0.0 c.in_err-write_marking.ensures.number)

pub overflow_mul-result : goal.overflow_mul-result
overflow_mul-result c =
    let few = few_run c.args.t.now c.args.m.now c.args.steps.now c.args.output.now c.requires.room c.in_ok-after.after c.run_bytes.new.answers c.in_ok-after.ensures.answer c.in_ok-after.ensures.answers in
    omega (arith, few.0)

pub overflow_add-result : goal.overflow_add-result
overflow_add-result c =
    let few = few_run c.args.t.now c.args.m.now c.args.steps.now c.args.output.now c.requires.room c.in_ok-after.after c.run_bytes.new.answers c.in_ok-after.ensures.answer c.in_ok-after.ensures.answers in
    omega (arith, few.0, few.1)

pub returns : goal.returns
returns c =
    rw c.if-beyond-ne0.false
    (run_told c.args.t.now c.args.m.now c.args.steps.now c.args.output.now c.requires.room c.in_ok-after.after c.run_bytes.new.answers c.in_ok-after.ensures.answer c.in_ok-after.ensures.answers _ c.in_ok-write_marking.ensures.bytes)

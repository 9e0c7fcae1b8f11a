-- The loop's law says what the words stand for after the last step.
use Rattle.std.proofs.Common.{rules, refl, arith, ◌<◌, length}
use Rattle.engine.specs.Laws.Playing.{playing_first, playing_accepts, playing_more, playing_whole}
use Rattle.engine.proofs.runner.play.Goals as goal

pub loop-i-init : goal.loop-i-init
loop-i-init g c = record {
  same_room = refl;
  clock_bound = omega arith;
  playing = λ t tail m steps done of stands same told. playing_first t tail m steps c.args.answers.now c.args.marking.now stands;
}

pub loop-i-preserved : goal.loop-i-preserved
loop-i-preserved g c = record {
  same_room = search rules;
  clock_bound = omega arith;
  playing = λ t tail m steps done of stands same told.
      let at = c.loop-i in
      let p = at.invariant.playing t tail m steps done of stands same told in
      let more = c.loop-i-test.true in
      let here : at.i < length steps = omega (arith, same) in
      playing_more t tail m steps c.args.answers.now at.i at.marking at.accepted at.answers p here (omega (arith, same))
      c.step_at.result (told at.i c.step_at.result here c.step_at.ensures) c.answer_to.result c.answer_to.new.accepted c.answer_to.new.marking
      (c.answer_to.ensures.turned t tail p.now of
      (playing_accepts t tail m steps c.args.answers.now at.i at.marking at.accepted at.answers p done) p.stands);
}

pub returns : goal.returns
returns g c t tail m steps done of stands same told =
    let at = c.loop-i in
    playing_whole t tail m steps c.args.answers.now at.i at.marking at.accepted at.answers
    (at.invariant.playing t tail m steps done of stands same told) (omega (arith, same, at.invariant.same_room)) same

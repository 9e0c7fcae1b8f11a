-- The relations passed are noted.
use Rattle.std.proofs.Common.{◌<◌, arith, length-take, get_or-take}
use Rattle.rules.specs.Holds.{empty_relation}
use Rattle.duties.specs.Laws.Noted.{followed_none, followed_more, answers_none, answers_more}
use Rattle.acts.specs.Laws.Derived.{left_small}
use Rattle.duties.proofs.following.Following.of.Goals as goal

pub loop-k-init : goal.loop-k-init
loop-k-init c = (followed_none c.args.t.now, answers_none c.args.t.now)

pub loop-k-preserved : goal.loop-k-preserved
loop-k-preserved c =
    let t = c.args.t.now in
    let i = c.loop-k.k-index in
    let b : i < t.count = omega (arith, c.loop-k-test.true, length-take t.count t.relations) in
    let is = get_or-take t.count t.relations i empty_relation b in
    rw (c.note.ensures.words, c.note.ensures.answers, is) (
      followed_more t i c.loop-k.following.words (left_small t c.requires i b) c.loop-k.invariant.0,
      answers_more t i c.loop-k.following.answers c.loop-k.invariant.1,
    )

-- The ready events are kept up to date, and the state on the way leads to the same end as the start.
use mathlib.Core.Path.{◌∙◌, refl, ap, sym}
use native.Mathlib.Omega.{arith}
use Rattle.rules.proofs.Laws.Time.{one_shifted}
use Rattle.rules.proofs.Laws.Turns.{worth_le}
use Rattle.acts.specs.declared.derived.Head.{Head}
use Rattle.duties.specs.Laws.Ready.{ready_untaken, ready_more}
use Rattle.duties.specs.Laws.Taking.{next_none, next_at, taken_in, taken_out, underway_start, underway_more, underway_none, underway_end}
use Rattle.duties.proofs.guard.take_all.Goals as goal
use Rattle.duties.proofs.guard.take_all.Goals.{then-take, else-take}

pub loop-init : goal.loop-init
loop-init c =
    rw c.of-ready.ensures
    (record {
      few = omega arith;
      less = omega arith;
      readied = record { within = λ x h. h; told = c.ready.ensures.by_index };
      clock = refl;
      onward = λ t tail m of fits stands. underway_start of tail _ m _ c.args.marking.now stands;
    })

pub returns-in_default-clause-stand : goal.returns-in_default-clause-stand
returns-in_default-clause-stand c = λ t tail m of fits room stands.
    let v = c.loop.invariant in
    underway_none of tail _ m _ c.loop.marking _ _ _ _ (v.onward t tail m of fits stands)
    (next_none t of.rows.good _ of.rows.derived v.readied (omega (arith, v.less, fits)) c.in_default.ensures.steps) room

pub overflow_sub-untaken : goal.overflow_sub-untaken
overflow_sub-untaken c =
    let next = c.in-Some.ensures.steps in
    rw (one_shifted _ next.small) (worth_le _ _ (ready_untaken c.loop.invariant.readied _ next.inside))

pub loop-preserved : goal.loop-preserved
loop-preserved c =
    let next = c.in-Some.ensures.steps in
    let v = c.loop.invariant in
    let free = rw (one_shifted _ next.small) at c.free.ensures in
    rw (one_shifted _ next.small, next.others)
    (record {
      few = elim c.if-take.branch [
        | then-take w ↦ omega (arith, v.few, w.count-is)
        | else-take w ↦ omega (arith, v.few, w.count-is)
      ];
      less = omega (arith, v.less);
      readied = ready_more v.readied _ next.inside next.small c.ready.new.waiting c.ready.ensures.awaits _ free;
      clock = c.take.ensures.clock ∙ v.clock;
      onward = λ t tail m of fits stands.
          let at = next_at t of.rows.good _ of.rows.derived v.readied (omega (arith, v.less, fits)) next in
          underway_more of tail _ m _ c.loop.marking _ _ _ _ (v.onward t tail m of fits stands) _ at
          (omega (arith, c.loop-test.true, ap (λ (h : Head). h.events) of.rows.headed)) c.take.new.marking _ _
          (λ now standing. (
            c.take.ensures.stand t tail now of at.1 standing,
            elim c.if-take.branch [
              | then-take w ↦
                  rw (w.caused-is, w.count-is)
                  (taken_in t now _ _ _ (sym (c.take.ensures.executed t tail now of at.1 standing) ∙ w.if-take.true))
              | else-take w ↦
                  rw (w.caused-is, w.count-is)
                  (taken_out t now _ _ _ (sym (c.take.ensures.executed t tail now of at.1 standing) ∙ w.if-take.false))
            ],
          ));
    })

pub returns-clause-stand : goal.returns-clause-stand
returns-clause-stand c = λ t tail m of fits room stands.
    let v = c.loop.invariant in
    underway_end of tail _ m _ c.loop.marking _ _ _ _ (v.onward t tail m of fits stands)
    (omega (arith, c.loop-test.false, ap (λ (h : Head). h.events) of.rows.headed)) room

-- The words of the first events are made, the others are still 0; their bounded responses answer.
use mathlib.Core.Path.{◌≡◌, ◌∙◌, ap, sym}
use mathlib.Core.Bool.{Bool, ◌||◌}
use Prim.Native.Nat.{◌<◌}
use native.Mathlib.Omega.{arith}
use Rattle.rules.specs.EventSet.{has}
use Rattle.rules.proofs.Laws.Counting.{some_none, some_more}
use Rattle.rules.proofs.Laws.EventSet.{has_zero}
use Rattle.rules.proofs.Laws.Bitwise.{has_or}
use Rattle.acts.specs.Derived.{row_of}
use Rattle.acts.specs.declared.derived.Head.{Head}
use Rattle.duties.specs.Laws.Followed.{made_none, made_more, words_followed}
use Rattle.duties.specs.Laws.Reasons.{answers_told}
use Rattle.duties.proofs.following.Following.of_rows.Goals as goal

pub loop-e-init : goal.loop-e-init
loop-e-init c = (made_none c.args.rows.now.words, λ x. has_zero x ∙ sym (some_none _))

pub loop-e-preserved : goal.loop-e-preserved
loop-e-preserved c =
    let few : c.loop-e.e < 64 = omega (arith, c.loop-e-test.true, c.args.rows.now.few_events) in (
      rw c.followed.ensures (made_more few c.loop-e.invariant.0),
      λ x.
          has_or _ _ x ∙ ap (λ (b : Bool). b || has (row_of c.args.rows.now.words c.loop-e.e 3) x) (c.loop-e.invariant.1 x)
          ∙ sym (some_more _ c.loop-e.e),
    )

pub returns : goal.returns
returns c = λ t rows.
    let events : c.loop-e.e ≡ t.events = omega (arith, c.loop-e.auto.e-end, c.loop-e-test.false, ap (λ (h : Head). h.events) rows.headed) in
    let invariant = rw events at c.loop-e.invariant in
    record {
      good = rows.good;
      followed = words_followed t rows.good c.args.rows.now.words rows.derived c.loop-e.following.words invariant.0;
      answers = answers_told t rows.good c.args.rows.now.words rows.derived c.loop-e.following.answers invariant.1;
    }

-- The nearest date so far, of those that were gone through.
use mathlib.Core.Path.{◌≡◌, ◌∙◌, subst}
use Prim.Native.Nat.{◌+◌, ◌-◌}
use native.Mathlib.Omega.{arith}
use Rattle.acts.specs.Laws.Quiet.{Nearest, nearest_start, nearest_more, nearest_quiet}
use Rattle.acts.proofs.marking_words.MarkingWords.quiet.Goals as goal

pub loop-e-init : goal.loop-e-init
loop-e-init c =
    let a = c.args in
    let all : a.most ≡ (a.self.now.clock + a.most) - a.self.now.clock = omega arith in
    subst (Nearest _ _ _ _) all (nearest_start _ _ _)

pub loop-e-preserved : goal.loop-e-preserved
loop-e-preserved c =
    let t = c.in-Some.ensures.steps in
    rw t.others (nearest_more _ _ _ c.loop-e.invariant _ t.inside (omega (arith, c.min-nearest.ensures)))

pub returns : goal.returns
returns c =
    record {
      upper_bound = omega (arith, c.saturating_sub.ensures, c.loop-e.invariant.small);
      value = λ tail m stands.
          c.saturating_sub.ensures
          ∙ nearest_quiet c.args.n tail c.args.self.now.clock c.args.self.now.sets c.args.self.now.columns m stands c.args.most
          (λ x. rw (c.into_iter-e-iterator.ensures.into_iter_gives, c.of-e-items.ensures, c.bounded_pending.ensures x)) c.loop-e.invariant
          c.in-None.ensures.steps;
    }

-- The events below i are laid.
use mathlib.Core.Path.{◌≡◌, refl}
use mathlib.Core.List.{◌∷◌, []}
use Prim.Native.Nat.{◌<◌}
use native.Mathlib.Omega.{arith}
use borrow.Author.Rules.{rules}
use lib.ListN.{length}
use Rattle.acts.specs.Laws.Laid.{laid_none, laid_more, laid_stands}
use Rattle.acts.proofs.laid.sets_of.Goals as goal

pub loop-i-init : goal.loop-i-init
loop-i-init c = record { there = omega arith; laid = laid_none _ _ c.requires.columns_len }

pub loop-i-preserved : goal.loop-i-preserved
loop-i-preserved c =
    let l = c.loop-i in
    let small : l.i < 64 = omega (arith, c.requires.events_bound) in
    let size : length c.args.m.now.records ≡ 64 = search (rules, c.type_inv.m) in
    record {
      there = omega (arith, size, small);
      laid = laid_more _ l.i small l.columns _ c.to_full.ensures l.happened l.included l.pending l.bounded l.invariant.laid
          c.with_if-happened.ensures c.with_if-included.ensures c.with_if-pending.ensures c.with_if-bounded.ensures;
    }

pub returns : goal.returns
returns c =
    let l = c.loop-i in
    let m = c.args.m.now in
    let all : l.i ≡ m.events = omega arith in
    laid_stands m c.requires.events_bound (rw all at l.invariant.there)
    l.happened l.included l.pending l.bounded (0 ∷ 0 ∷ 0 ∷ 0 ∷ []) l.columns refl (rw all at l.invariant.laid)

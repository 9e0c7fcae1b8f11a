-- What each sort of relation is, by its kind and what else it holds: the five kinds one by one. Assumes nothing.
use Rattle.std.specs.Prelude.{◌≡◌, Bool, true, false, not, ◌&&◌, ◌||◌, cond, ℕ, zero, suc, ◌≤◌, eqb, ltb}
use Rattle.std.proofs.Common.{arith}
use Rattle.rules.specs.declared.Relation.{Relation}
use Rattle.rules.specs.Shapes.Good.{GoodRelation}
use Rattle.acts.specs.Derived.{sort_of}

-- a sort, against the kind of a relation, whether it has a time, whether it is bounded, and whether it leads to its own left event
pub record Sorts (sort kind : ℕ) (timed bounded itself : Bool) : Type 0 where
  pub conditions : (eqb sort 0 || eqb sort 1) ≡ eqb kind 1
  pub waiting : eqb sort 1 ≡ (eqb kind 1 && timed)
  pub milestones : eqb sort 2 ≡ eqb kind 5
  pub answers : eqb sort 3 ≡ (eqb kind 2 && bounded)
  pub responses : (eqb sort 3 || eqb sort 4) ≡ eqb kind 2
  pub inclusions : eqb sort 5 ≡ (eqb kind 3 && not itself)
  pub all_inclusions : (eqb sort 5 || eqb sort 7) ≡ eqb kind 3
  pub exclusions : eqb sort 6 ≡ eqb kind 4

pub sorts : {n : ℕ} (k : Relation) → GoodRelation n k → Sorts (sort_of k) k.kind (ltb 0 k.time) k.bounded (eqb k.left k.right)
unfolding sort_of
sorts k good = kinds k.kind (ltb 0 k.time) k.bounded (eqb k.left k.right) good.kind_some good.kind_small
  where
    kinds : (kind : ℕ) (timed bounded itself : Bool) → 1 ≤ kind → kind ≤ 5
        → Sorts
        (cond (eqb kind 1) (cond timed 1 0) (cond (eqb kind 5) 2 (cond (eqb kind 2) (cond bounded 3 4) (cond (eqb kind 3) (cond itself 7 5) 6))))
        kind timed bounded itself
    kinds zero timed bounded itself some few = absurd (omega arith)
    kinds (suc zero) true bounded itself some few = search
    kinds (suc zero) false bounded itself some few = search
    kinds (suc (suc zero)) timed true itself some few = search
    kinds (suc (suc zero)) timed false itself some few = search
    kinds (suc (suc (suc zero))) timed bounded true some few = search
    kinds (suc (suc (suc zero))) timed bounded false some few = search
    kinds (suc (suc (suc (suc zero)))) timed bounded itself some few = search
    kinds (suc (suc (suc (suc (suc zero))))) timed bounded itself some few = search
    kinds (suc (suc (suc (suc (suc (suc kind)))))) timed bounded itself some few = absurd (omega arith)

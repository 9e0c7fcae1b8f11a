-- The stretch that is handed back is as long as the answer says. Assumes nothing.
use Rattle.std.specs.Prelude.{◌≡◌, refl, Bool, true, false, not, ◌||◌, cond, List, ℕ, ltb, length, take}
use Rattle.std.proofs.Common.{length-take-le, leb-true}
use Rattle.rules.specs.declared.Table.{Table}
use Rattle.rules.specs.declared.Marking.{Marking}
use Rattle.rules.specs.Numbers.{◌if◌}
use Rattle.rules.specs.Judge.{judged}
use Rattle.rules.specs.Remedy.{longest_list, shortest, has_start, remedy_number, remedy, stretch}
use Rattle.rules.proofs.Laws.Tests.{not_false, clash}
use Rattle.rules.proofs.Laws.Numbers.{if_done, both_done}

module _ (t : Table) (m : Marking) (preferred fallback : List ℕ) where
  -- one of the lists has a start
  some_start : (remedy t m preferred fallback).number ≡ 0 → (has_start t m preferred || has_start t m fallback) ≡ true
  unfolding remedy remedy_number
  some_start h =
      let long = ltb longest_list (length preferred) || ltb longest_list (length fallback) in
      let own = (both_done (judged t m) _ h).1 in
      not_false _ (if_done 12 _ (both_done (14 if long) _ own).1)

  pub start_long : (remedy t m preferred fallback).number ≡ 0
      → length (stretch (remedy t m preferred fallback) preferred fallback) ≡ (remedy t m preferred fallback).length
  unfolding remedy
  start_long h = rw h (go (has_start t m preferred) (has_start t m fallback) refl refl (some_start h))
    where
      go : (first second : Bool) → has_start t m preferred ≡ first → has_start t m fallback ≡ second → (first || second) ≡ true
          → length (take (cond (not first) (shortest t m fallback) (shortest t m preferred)) (cond (not first) fallback preferred))
          ≡ cond (not first) (shortest t m fallback) (shortest t m preferred)
      go true second p q some = length-take-le (shortest t m preferred) preferred (leb-true (shortest t m preferred) (length preferred) p)
      go false true p q some = length-take-le (shortest t m fallback) fallback (leb-true (shortest t m fallback) (length fallback) q)
      go false false p q some = absurd (clash some refl)

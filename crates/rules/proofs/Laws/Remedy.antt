-- One pass over an offered list finds the shortest start that discharges: nothing due, and the empty start is it; else the first event
-- is caused, if it can be, and the rest of the list is searched from the marking after it. Assumes nothing.
use Rattle.std.specs.Prelude.{◌≡◌, refl, Bool, ◌&&◌, List, [], ◌∷◌, ltb, length, take, drop, get_or}
use Rattle.std.proofs.Common.{◌∙◌, sym, ⊎_elim, add-one, arith, length-drop, drop-cons}
use Rattle.std.proofs.Math.Path.{ap}
use Rattle.std.proofs.Math.Bool.{true, false, not}
use Prim.Native.Nat.{ℕ, zero, suc, ◌<◌, ◌≤◌, ◌+◌}
use Rattle.std.proofs.Math.Seq.{drop-length}
use borrow.Author.Tests.{ne_eqb, lt-ltb, le-ltb, le-leb, lt-leb}
use Rattle.rules.specs.declared.Table.{Table}
use Rattle.rules.specs.declared.Marking.{Marking}
use Rattle.rules.specs.Answers.{RemedyAnswer}
use Rattle.rules.specs.Counting.{lowest}
use Rattle.rules.specs.Judge.{judged}
use Rattle.rules.specs.Effect.{effect}
use Rattle.rules.specs.Time.{any_due}
use Rattle.rules.specs.Remedy.{in_turn, effects, discharges, shortest, longest_list, remedy_number, remedy}
use Rattle.rules.specs.Shapes.Tried.{may_cause}
use Rattle.rules.proofs.Laws.Counting.{lowest_is, lowest_none, lowest_same, lowest_cases, lowest_le}
use Rattle.rules.proofs.Laws.Tests.{or_right}
use Rattle.rules.proofs.Laws.Numbers.{else_refused}
use Rattle.rules.proofs.Demand3.Facts.{effect_judged}

-- the lowest number of n + 1 is 0, or one more than the lowest of the others
lowest_first : (f : ℕ → Bool) (n : ℕ) → f 0 ≡ true → lowest (suc n) f ≡ 0
lowest_first f n h = lowest_is f (suc n) 0 (omega arith) h (λ y b. absurd (omega arith))

lowest_shift : (f : ℕ → Bool) (n : ℕ) → f 0 ≡ false → lowest (suc n) f ≡ suc (lowest n (λ k. f (suc k)))
lowest_shift f n h =
    ⊎_elim
    (λ d. lowest_is f (suc n) (suc (lowest n (λ k. f (suc k)))) (omega (arith, d.small)) d.holds (below (lowest n (λ k. f (suc k))) d.first))
    (λ d. lowest_none f (suc n) (below n d.nowhere) ∙ ap suc (sym d.whole))
    (lowest_cases (λ k. f (suc k)) n)
  where
    below : (r : ℕ) → ((y : ℕ) → y < r → f (suc y) ≡ false) → (y : ℕ) → y < suc r → f y ≡ false
    below r first zero b = h
    below r first (suc y) b = first y (omega arith)

module _ (t : Table) (m : Marking) where
  pub shortest_empty : (list : List ℕ) → any_due m ≡ false → shortest t m list ≡ 0
  unfolding shortest discharges in_turn effects
  shortest_empty list h = lowest_first _ (length list) (rw h)

  pub shortest_none : any_due m ≡ true → shortest t m [] ≡ 1
  unfolding shortest discharges in_turn effects
  shortest_none h = lowest_none _ 1 (λ y b. at y b)
    where
      at : (y : ℕ) → y < 1 → (in_turn t m (take y []) && not (any_due (effects t m (take y [])))) ≡ false
      at zero b = rw h
      at (suc y) b = absurd (omega arith)

  pub shortest_further : (e : ℕ) (rest : List ℕ) → any_due m ≡ true → may_cause t m e ≡ true → shortest t m (e ∷ rest) ≡ suc (shortest t (effect t m e) rest)
  unfolding shortest discharges in_turn effects may_cause
  shortest_further e rest h c =
      lowest_shift _ (suc (length rest)) (rw h)
      ∙ ap suc (lowest_same _ _ (suc (length rest)) (λ k b. rw c))

  pub shortest_stuck : (e : ℕ) (rest : List ℕ) → any_due m ≡ true → may_cause t m e ≡ false → shortest t m (e ∷ rest) ≡ suc (suc (length rest))
  unfolding shortest discharges in_turn effects may_cause
  shortest_stuck e rest h c =
      lowest_shift _ (suc (length rest)) (rw h)
      ∙ ap suc (lowest_none _ (suc (length rest)) (λ k b. rw c))

  -- a start is never longer than one more than the list
  pub shortest_le : (list : List ℕ) → shortest t m list ≤ suc (length list)
  unfolding shortest
  shortest_le list = lowest_le _ (suc (length list))

-- The pass itself: what is known once i events of the list were caused, one after the other, in a marking of its own.
module _ (t : Table) (m : Marking) (list : List ℕ) where
  pub record TriedSoFar (i : ℕ) (trial : Marking) : Type 0 where
    pub still_judged : judged t trial ≡ 0
    pub rest_searched : shortest t m list ≡ i + shortest t trial (drop i list)

  pub passed_none : judged t m ≡ 0 → TriedSoFar 0 m
  passed_none h = record { still_judged = h; rest_searched = omega arith }

  module _ (i : ℕ) (trial : Marking) (p : TriedSoFar i trial) where
    -- nothing is due: this start is it
    pub found_here : any_due trial ≡ false → shortest t m list ≡ i
    found_here h = p.rest_searched ∙ rw (shortest_empty t trial (drop i list) h) (omega arith)

    -- the list is at its end
    pub found_none : i ≡ length list → any_due trial ≡ true → shortest t m list ≡ length list + 1
    found_none e h = p.rest_searched ∙ rw (e, drop-length list, shortest_none t trial h)

    module _ (more : i < length list) (due : any_due trial ≡ true) where
      abbrev next : ℕ
      next = get_or list i 0

      parted : drop i list ≡ next ∷ drop (suc i) list
      parted = drop-cons list i 0 more

      pub passed_more : may_cause t trial next ≡ true → TriedSoFar (i + 1) (effect t trial next)
      passed_more h = record {
        still_judged = effect_judged t trial next p.still_judged;
        rest_searched = p.rest_searched ∙ rw (parted, shortest_further t trial next (drop (suc i) list) due h, add-one i) (omega arith);
      }

      pub stuck_here : may_cause t trial next ≡ false → shortest t m list ≡ length list + 1
      stuck_here h =
          p.rest_searched
          ∙ rw (parted, shortest_stuck t trial next (drop (suc i) list) due h, length-drop (suc i) list) (omega arith)

-- The answer, test by test.
module _ (t : Table) (m : Marking) (preferred fallback : List ℕ) where
  abbrev answer : ℕ → Bool → ℕ → RemedyAnswer
  answer number second length = record { number = number; fallback = second; length = length }

  pub remedy_judged : {n : ℕ} → n ≡ judged t m → (n ≡ 0 → ⊥) → remedy t m preferred fallback ≡ answer n false 0
  unfolding remedy
  remedy_judged e h =
      let no : judged t m ≡ 0 → ⊥ = λ z. h (e ∙ z) in
      rw (else_refused (remedy_number t m preferred fallback) no, ne_eqb (judged t m) 0 no, e)

  module _ (h : judged t m ≡ 0) where
    pub remedy_first_long : longest_list < length preferred → remedy t m preferred fallback ≡ answer 14 false 0
    unfolding remedy remedy_number
    remedy_first_long l = rw (h, lt-ltb longest_list (length preferred) l)

    pub remedy_second_long : longest_list < length fallback → remedy t m preferred fallback ≡ answer 14 false 0
    unfolding remedy remedy_number
    remedy_second_long l = rw (h, lt-ltb longest_list (length fallback) l, or_right (ltb longest_list (length preferred)) true refl)

    module _ (short-first : length preferred ≤ longest_list) (short-second : length fallback ≤ longest_list) where
      pub remedy_first : shortest t m preferred ≤ length preferred → remedy t m preferred fallback ≡ answer 0 false (shortest t m preferred)
      unfolding remedy remedy_number
      remedy_first l =
          rw (
            h,
            le-ltb longest_list (length preferred) short-first,
            le-ltb longest_list (length fallback) short-second,
            le-leb (shortest t m preferred) (length preferred) l,
          )

      pub remedy_second : length preferred < shortest t m preferred → shortest t m fallback ≤ length fallback
          → remedy t m preferred fallback ≡ answer 0 true (shortest t m fallback)
      unfolding remedy remedy_number
      remedy_second g l =
          rw (
            h,
            le-ltb longest_list (length preferred) short-first,
            le-ltb longest_list (length fallback) short-second,
            lt-leb (shortest t m preferred) (length preferred) g,
            le-leb (shortest t m fallback) (length fallback) l,
          )

      pub remedy_none : length preferred < shortest t m preferred → length fallback < shortest t m fallback → remedy t m preferred fallback ≡ answer 13 false 0
      unfolding remedy remedy_number
      remedy_none g l =
          rw (
            h,
            le-ltb longest_list (length preferred) short-first,
            le-ltb longest_list (length fallback) short-second,
            lt-leb (shortest t m preferred) (length preferred) g,
            lt-leb (shortest t m fallback) (length fallback) l,
          )

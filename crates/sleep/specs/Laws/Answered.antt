-- What the call answers, and what the list then holds, by how it ended. Assumes nothing.
use Rattle.std.specs.Prelude.{◌≡◌, true, false, List, ◌++◌, ℕ, ◌<◌, ◌≤◌, leb, length}
use Rattle.std.proofs.Math.Path.{refl, ap}
use Rattle.std.proofs.Common.{sym, subst, ◌∙◌, zero-add, arith}
use Rattle.std.proofs.Math.ListN.{drop, length-map}
use Rattle.std.proofs.lemmas.List.Edits.{sets-eq}
use borrow.Author.Tests.{ne_eqb, lt-ltb, le-ltb, leb-true, leb-false}
use Rattle.rules.specs.declared.Table.{Table}
use Rattle.rules.specs.declared.Marking.{Marking}
use Rattle.rules.specs.CheckAnswer.{Refused, Accepts, Rejects}
use Rattle.rules.specs.Answers.{SleptAnswer}
use Rattle.rules.specs.Judge.{judged}
use Rattle.rules.specs.Check.{verdict}
use Rattle.rules.specs.Sleep.{most_ticks, slept, slept_caused, sleep_number, sleep_answer, place_of, places_of, sleep_list}
use Rattle.rules.proofs.Laws.Numbers.{else_refused}
use Rattle.rules.proofs.Laws.Check.{Said, verdict_said}
use Rattle.rules.proofs.Laws.Sleep.{early_number, early_grants, checked, unchecked}
use Rattle.rules.specs.Results.{refused_slept}
use Rattle.sleep.specs.Passing.{put}

-- values for which the list has room stand in its first places
put_whole : (values list : List ℕ) → length values ≤ length list → put 0 values list ≡ values ++ drop (length values) list
unfolding put
put_whole values list fits =
    sets-eq values list 0 (rw (zero-add (length values)) fits) ∙ ap (λ (n : ℕ). values ++ drop n list) (zero-add (length values))

module _ (t : Table) (m : Marking) (ticks : ℕ) (list : List ℕ) where
  -- the answer is the one defined, and so is what the list holds
  abbrev pub Ends : SleptAnswer → List ℕ → Type 0
  Ends answer after = (answer ≡ sleep_answer t m ticks (length list)) × (after ≡ sleep_list t m ticks list)

  -- before the check: a number of the judge, or more ticks than the limit
  early : {number : ℕ} → number ≡ early_number t m ticks → (number ≡ 0 → ⊥) → Ends (refused_slept number 0 0 m) list
  unfolding sleep_answer sleep_number sleep_list
  early {number} e h =
      rw (unchecked t m ticks e h, else_refused {a = number} _ h, ne_eqb number 0 h) (refl, refl)

  pub unjudged : {number : ℕ} → number ≡ judged t m → (number ≡ 0 → ⊥) → Ends (refused_slept number 0 0 m) list
  unjudged {number} e h = early (e ∙ sym (else_refused {a = judged t m} _ (λ z. h (e ∙ z)))) h

  pub too_many : judged t m ≡ 0 → most_ticks < ticks → Ends (refused_slept 14 0 0 m) list
  too_many judged_done many = early (sym (rw (judged_done, lt-ltb most_ticks ticks many))) (λ z. omega (arith, z))

  -- by the check
  module _ (judged_done : judged t m ≡ 0) (few : ticks ≤ most_ticks) where
    pub never : {answer : SleptAnswer} {number : ℕ} → verdict t m ≡ Refused number → Ends answer list
    never e = absurd (subst Said e (verdict_said t m))

    pub rejected : {reason place : ℕ} → verdict t m ≡ Rejects reason place → Ends (refused_slept 12 reason place m) list
    unfolding sleep_answer sleep_number sleep_list
    rejected e = rw (checked t m ticks (early_grants t m ticks judged_done few), e) (refl, refl)

    module _ (accepts : verdict t m ≡ Accepts) where
      -- and by the room
      pub short : leb (length (slept_caused t m ticks)) (length list) ≡ false → Ends (refused_slept 14 0 0 m) list
      unfolding sleep_answer sleep_number sleep_list
      short h =
          rw (
            checked t m ticks (early_grants t m ticks judged_done few),
            accepts,
            lt-ltb (length list) (length (slept_caused t m ticks)) (leb-false (length (slept_caused t m ticks)) (length list) h),
          ) (refl, refl)

      pub whole : leb (length (slept_caused t m ticks)) (length list) ≡ true → {count : ℕ} {after : Marking} {held : List ℕ}
          → count ≡ length (slept_caused t m ticks) → after ≡ slept t m ticks → held ≡ put 0 (places_of (slept_caused t m ticks)) list
          → Ends (record { number = 0; reason = 0; place = 0; count = count; marking = after }) held
      unfolding sleep_answer sleep_number sleep_list
      whole h {count} {after} {held} counted given put-so =
          let fits = leb-true (length (slept_caused t m ticks)) (length list) h in
          let places = length-map (slept_caused t m ticks) place_of in
          rw (
            checked t m ticks (early_grants t m ticks judged_done few),
            accepts,
            le-ltb (length list) (length (slept_caused t m ticks)) fits,
            counted,
            given,
          ) (
            refl,
            put-so
                ∙ put_whole (places_of (slept_caused t m ticks)) list (rw places fits)
                ∙ ap (λ (n : ℕ). places_of (slept_caused t m ticks) ++ drop n list) places,
          )

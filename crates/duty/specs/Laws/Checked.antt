-- A verdict of the check is no refusal, and a rejection has a reason. So a call that makes the check, of judged values, is refused by the check
-- with a reason and a place, and by anything else with neither. Assumes nothing.
use Rattle.std.specs.Prelude.{◌≡◌, refl, Bool, true, false, cond, ℕ, zero, suc, List, ltb, length, Result, Ok, Err}
use Rattle.std.proofs.Common.{◌∙◌, sym, ap, subst, arith, ne_eqb}
use Rattle.rules.specs.declared.Table.{Table}
use Rattle.rules.specs.declared.Marking.{Marking}
use Rattle.rules.specs.CheckAnswer.{CheckAnswer, Refused as refused, Accepts, Rejects}
use Rattle.rules.specs.Answers.{ToldCheck, GuardedAnswer, SleptAnswer}
use Rattle.rules.specs.declared.answers.Guarded.{Guarded}
use Rattle.rules.specs.declared.answers.Slept.{Slept}
use Rattle.rules.specs.declared.refusal.Refusal.{Refusal}
use Rattle.rules.specs.declared.verdict.CheckError.{CheckError}
use Rattle.rules.specs.declared.verdict.CheckError.TheVariants.{Refused, Rejected}
use Rattle.rules.specs.Counting.{lowest}
use Rattle.rules.specs.Numbers.{◌if◌, ◌else◌, done, check_number, check_reason, check_in_numbers}
use Rattle.rules.specs.Results.{refusal_number, reason_number, as_check, as_guarded, as_slept}
use Rattle.rules.specs.Judge.{judged}
use Rattle.rules.specs.Check.{reason, verdict, check, told_check}
use Rattle.rules.specs.Guard.{guarded_tick}
use Rattle.rules.specs.Sleep.{most_ticks, slept_caused, sleep_check, sleep_number, sleep_answer}
use Rattle.rules.specs.Images.{table_of, marking_of, images_number, on, verdict_told}
use Rattle.rules.proofs.Laws.Numbers.{else_done, else_refused}
use Rattle.rules.proofs.Laws.Results.{refused_number}
use Rattle.duty.specs.Reading.{Refuses}
use Rattle.duty.specs.Telling.{check_number_of, reason_left, place_left}
use Rattle.duty.specs.Performing.{Fills}
use Rattle.duty.specs.Laws.Images.{read_judged}
use Rattle.duty.specs.Laws.Kept.{sleep_judged, fills}
use Rattle.duty.specs.Laws.Answered.{left, by_reading}

-- a rejection has a reason
abbrev pub Reasoned : CheckAnswer → Type 0
Reasoned (refused number) = ⊥
Reasoned Accepts = Unit {0}
Reasoned (Rejects reason place) = reason ≡ 0 → ⊥

reason_reasoned : (number n : ℕ) (f : ℕ → Bool) (next : CheckAnswer) → (number ≡ 0 → ⊥) → Reasoned next → Reasoned (reason number n f next)
reason_reasoned number n f next some h = go (ltb (lowest n f) n)
  where
    go : (b : Bool) → Reasoned (cond b (Rejects number (lowest n f)) next)
    go true = some
    go false = h

pub verdict_reasoned : (t : Table) (m : Marking) → Reasoned (verdict t m)
unfolding verdict
verdict_reasoned t m =
    reason_reasoned 1 _ _ _ (λ z. omega (arith, z))
    (reason_reasoned 2 _ _ _ (λ z. omega (arith, z))
    (reason_reasoned 3 _ _ _ (λ z. omega (arith, z))
    (reason_reasoned 4 _ _ _ (λ z. omega (arith, z))
    (reason_reasoned 5 _ _ _ (λ z. omega (arith, z))
    (reason_reasoned 6 _ _ _ (λ z. omega (arith, z)) tt)))))

-- a number with no reason is none of the check's
pub none_without : (v : CheckAnswer) → Reasoned v → check_reason v ≡ 0 → check_number v ≡ 0
none_without (refused number) s h = absurd s
none_without Accepts s h = refl
none_without (Rejects reason place) s h = absurd (s h)

-- what a result tells of reason and place
module _ {A : Type 0} where
  abbrev pub Tells : Result A CheckError → ℕ → ℕ → Type 0
  Tells (Ok _) reason place = (0 ≡ reason) × (0 ≡ place)
  Tells (Err (Refused _)) reason place = ⊥
  Tells (Err (Rejected rejection)) reason place = (reason_number rejection.reason ≡ reason) × (rejection.place ≡ place)

  abbrev pub Early : ℕ → Result A CheckError → Type 0
  Early = Refuses (λ (r : Refusal) (e : CheckError). e ≡ Refused r)

  early : {number : ℕ} {answer : Result A CheckError} (u : Early number answer) → answer ≡ Err (Refused u.refusal)
  early u = u.is ∙ ap Err u.made

  -- what is put where the call is done, and left where it is refused
  pub done_put : {answer : Result A CheckError} {number : ℕ} → number ≡ check_number_of answer → {a : A} → answer ≡ Ok a
      → {B : Type 0} (after before : B) → after ≡ done number after before
  done_put n is after before = rw n (rw is refl)

  pub error_left : {answer : Result A CheckError} {number : ℕ} → number ≡ check_number_of answer → {e : CheckError} → answer ≡ Err e
      → {B : Type 0} (after before : B) → before ≡ done number after before
  error_left {answer} {number} n {e} is after before = left number after before (λ z. some e (sym (ap check_number_of is) ∙ sym n ∙ z))
    where
      some : (e : CheckError) → check_number_of {A = A} (Err e) ≡ 0 → ⊥
      some (Refused r) z = refused_number r z
      some (Rejected rejection) z = omega (arith, z)

  -- the numbers before the check's: where they refuse, reason and place are left, and else they are told
  module _ (number : ℕ) (answer : Result A CheckError)
      (refuses : (number ≡ 0 → ⊥) → Early number answer) where
    pub number_behind : (own : ℕ) → (number ≡ 0 → check_number_of answer ≡ own) → check_number_of answer ≡ (number else own)
    number_behind own told = go number refl
      where
        go : (n : ℕ) → number ≡ n → check_number_of answer ≡ (number else own)
        go zero z = told z ∙ sym (else_done own z)
        go (suc n) e =
            let away : number ≡ 0 → ⊥ = λ z. omega (arith, e, z) in
            let u = refuses away in
            ap check_number_of (early u) ∙ u.numbered ∙ sym (else_refused own away)

    pub granted : (a : A) → answer ≡ Ok a → number ≡ 0
    granted a is = go number refl
      where
        go : (n : ℕ) → number ≡ n → number ≡ 0
        go zero z = z
        go (suc n) e = let u = refuses (λ z. omega (arith, e, z)) in let clash = sym is ∙ u.is in cc

    pub told_behind : (reason place : ℕ) → (number ≡ 0 → Tells answer reason place) → (before was : ℕ)
        → (reason_left before answer ≡ done number reason before) × (place_left was answer ≡ done number place was)
    told_behind reason place told before was = go number refl
      where
        said : (a : Result A CheckError) → Tells a reason place → (reason_left before a ≡ reason) × (place_left was a ≡ place)
        said (Ok a) h = h
        said (Err (Refused r)) h = absurd h
        said (Err (Rejected rejection)) h = h

        go : (n : ℕ) → number ≡ n → (reason_left before answer ≡ done number reason before) × (place_left was answer ≡ done number place was)
        go zero z = rw z (said answer (told z))
        go (suc n) e =
            let away : number ≡ 0 → ⊥ = λ z. omega (arith, e, z) in
            let u = refuses away in (
              ap (reason_left before) (early u) ∙ left number reason before away,
              ap (place_left was) (early u) ∙ left number place was away,
            )

module _ (t : Table) (m : Marking) (h : judged t m ≡ 0) where
  check_reasoned : Reasoned (check t m)
  unfolding check
  check_reasoned = rw h (verdict_reasoned t m)

  pub check_tells : {A : Type 0} (answer : Result A CheckError) → as_check answer ≡ check t m → check_in_numbers (as_check answer) ≡ told_check t m
      → Tells answer (told_check t m).reason (told_check t m).place
  check_tells (Ok a) e told = (ap (λ (c : ToldCheck). c.reason) told, ap (λ (c : ToldCheck). c.place) told)
  check_tells (Err (Refused r)) e told = subst Reasoned (sym e) check_reasoned
  check_tells (Err (Rejected rejection)) e told = (ap (λ (c : ToldCheck). c.reason) told, ap (λ (c : ToldCheck). c.place) told)

  pub guarded_tells : (answer : Result Guarded CheckError) → as_guarded m answer ≡ guarded_tick t m
      → Tells answer (guarded_tick t m).reason (guarded_tick t m).place
  unfolding guarded_tick
  guarded_tells (Ok guarded) e = (ap (λ (a : GuardedAnswer). a.reason) e, ap (λ (a : GuardedAnswer). a.place) e)
  guarded_tells (Err (Refused r)) e =
      refused_number r
      (ap (λ (a : GuardedAnswer). a.number) e ∙ none_without (check t m) check_reasoned (sym (ap (λ (a : GuardedAnswer). a.reason) e)))
  guarded_tells (Err (Rejected rejection)) e = (ap (λ (a : GuardedAnswer). a.reason) e, ap (λ (a : GuardedAnswer). a.place) e)

  -- what is slept through is rejected with a reason, before the list is too short
  no_reason : (ticks room : ℕ) → 0 ≡ (sleep_answer t m ticks room).reason → (sleep_answer t m ticks room).number ≡ 12 → ⊥
  unfolding sleep_answer sleep_number sleep_check
  no_reason ticks room = rw h (go (ltb most_ticks ticks) (ltb room (length (slept_caused t m ticks))))
    where
      short : (v : CheckAnswer) → Reasoned v → (b : Bool) → 0 ≡ check_reason v → (check_number v else 14 if b) ≡ 12 → ⊥
      short v s true z n = let none = none_without v s (sym z) in omega (arith, n, else_done (14 if true) none)
      short v s false z n = let none = none_without v s (sym z) in omega (arith, n, else_done (14 if false) none)

      go : (long : Bool) (b : Bool) → 0 ≡ check_reason (done (14 if long) (verdict t m) (refused (14 if long)))
          → (check_number (done (14 if long) (verdict t m) (refused (14 if long))) else 14 if b) ≡ 12 → ⊥
      go true b z n = omega (arith, n)
      go false b z n = short (verdict t m) (verdict_reasoned t m) b z n

  pub slept_tells : (ticks room : ℕ) (answer : Result Slept CheckError) → as_slept m answer ≡ sleep_answer t m ticks room → (before was : ℕ)
      → let said = sleep_answer t m ticks room in
      (reason_left before answer ≡ verdict_told (check_number_of answer) said.reason before)
      × (place_left was answer ≡ verdict_told (check_number_of answer) said.place was)
  unfolding verdict_told
  slept_tells ticks room (Ok slept) e before was = (ap (λ (a : SleptAnswer). a.reason) e, ap (λ (a : SleptAnswer). a.place) e)
  slept_tells ticks room (Err (Refused r)) e before was =
      let twelve : refusal_number r ≡ 12 → ⊥ = λ z. no_reason ticks room (ap (λ (a : SleptAnswer). a.reason) e)
      (sym (ap (λ (a : SleptAnswer). a.number) e) ∙ z) in
      rw (ne_eqb (refusal_number r) 0 (refused_number r), ne_eqb (refusal_number r) 12 twelve) (refl, refl)
  slept_tells ticks room (Err (Rejected rejection)) e before was = (ap (λ (a : SleptAnswer). a.reason) e, ap (λ (a : SleptAnswer). a.place) e)

-- behind the reading of the images
module _ (table marking : List ℕ) (ticks room : ℕ) (answer : Result Slept CheckError)
    (unread : (images_number table marking ≡ 0 → ⊥) → Early (images_number table marking) answer)
    (ruled : images_number table marking ≡ 0
    → as_slept (marking_of table marking) answer ≡ on sleep_answer table marking ticks room) where
  abbrev said : SleptAnswer
  said = on sleep_answer table marking ticks room

  pub slept_left : {number : ℕ} → number ≡ check_number_of answer → (before was : ℕ)
      → (reason_left before answer ≡ done (images_number table marking) (verdict_told number said.reason before) before)
      × (place_left was answer ≡ done (images_number table marking) (verdict_told number said.place was) was)
  slept_left {number} n before was = rw n (by_reading table marking read unread_left)
    where
      Left : Type 0
      Left =
          (reason_left before answer ≡ done (images_number table marking) (verdict_told (check_number_of answer) said.reason before) before)
          × (place_left was answer ≡ done (images_number table marking) (verdict_told (check_number_of answer) said.place was) was)

      read : images_number table marking ≡ 0 → Left
      read z =
          rw z (slept_tells (table_of table) (marking_of table marking) (read_judged table marking z) ticks room answer (ruled z) before was)

      unread_left : (images_number table marking ≡ 0 → ⊥) → Left
      unread_left away = let u = unread away in (
        ap (reason_left before) (early u) ∙ left (images_number table marking) _ before away,
        ap (place_left was) (early u) ∙ left (images_number table marking) _ was away,
      )

  -- where it is done the new marking fills the buffer
  pub slept_fills : (s : Slept) → answer ≡ Ok s → Fills s.marking marking
  slept_fills s is =
      let z = granted (images_number table marking) answer unread s is in
      let after : s.marking ≡ said.marking = ap (λ (a : SleptAnswer). a.marking) (ap (as_slept (marking_of table marking)) (sym is) ∙ ruled z) in
      fills table marking s.marking z
      (subst (λ (k : Marking). judged (table_of table) k ≡ 0) (sym after)
      (sleep_judged (table_of table) (marking_of table marking) (read_judged table marking z) ticks room))

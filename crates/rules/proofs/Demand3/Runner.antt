-- For a caller of the runner: demand 3 along the trace that it plays. What is said here speaks of what `run` and `run_bytes` promise, that the
-- answer and the buffer are those defined. Assumes nothing.
use Rattle.std.specs.Prelude.{◌≡◌, Bool, true, false, cond, eqb, length, get_or, take}
use Rattle.std.proofs.Math.Path.{refl, ap, sym, subst}
use Rattle.std.proofs.Common.{◌∙◌, length-take-le, get_or-take}
use mathlib.Core.List.{List, ◌∷◌, ◌++◌, append_assoc}
use Prim.Native.Nat.{ℕ, zero, suc, ◌<◌, ◌≤◌, ◌+◌, ◌*◌, ◌/◌}
use native.Mathlib.Omega.{arith}
use Rattle.std.proofs.Math.ListN.{drop}
use Rattle.std.proofs.Math.Seq.{split_at}
use Rattle.std.proofs.lemmas.List.{get_or_at}
use Rattle.rules.specs.declared.Table.{Table}
use Rattle.rules.specs.declared.Marking.{Marking}
use Rattle.rules.specs.declared.Step.{Step}
use Rattle.rules.specs.Answers.{MarkingAnswer}
use Rattle.rules.specs.CheckAnswer.{Accepts}
use Rattle.rules.specs.Counting.{places_from, places}
use Rattle.rules.specs.Numbers.{done}
use Rattle.rules.specs.Check.{check}
use Rattle.rules.specs.Trace.{guarded_tick_kind, step_number, stepped, end_of, answers_of, run_number, run, run_answers}
use Rattle.rules.specs.Trace.{steps_in, bytes_number, run_bytes, run_bytes_answers}
use Rattle.rules.specs.Promised.{Promise}
use Rattle.rules.specs.Calls.{step, Answered}
use Rattle.rules.proofs.Laws.Trace.{answers_append, answers_length, no_step_lem, step_at, steps_length, steps_at}
use Rattle.rules.proofs.Demand3.Accepts.{check_parts}
use Rattle.rules.proofs.Demand3.Statements.{still_accepts, guarded_tick_lem}
use Rattle.rules.proofs.Demand3.Chain.{answered}

-- the first steps of a trace of bytes are those of its first bytes
module _ {A : Type 0} where
  places_from_same : (f g : ℕ → A) (at n : ℕ) → ((i : ℕ) → i < at + n → f i ≡ g i) → places_from at n f ≡ places_from at n g
  unfolding places_from
  places_from_same f g at zero same = refl
  places_from_same f g at (suc n) same =
      ap (λ (a : A). a ∷ places_from (suc at) n f) (same at (omega arith))
      ∙ ap (λ (l : List A). g at ∷ l) (places_from_same f g (suc at) n (λ i b. same i (omega (arith, b))))

  take_places_from : (f : ℕ → A) (at n i : ℕ) → i ≤ n → take i (places_from at n f) ≡ places_from at i f
  unfolding places_from
  take_places_from f at n zero b = refl
  take_places_from f at zero (suc i) b = absurd (omega (arith, b))
  take_places_from f at (suc n) (suc i) b = ap (λ (l : List A). f at ∷ l) (take_places_from f (suc at) n i (omega (arith, b)))

module _ (bytes : List ℕ) (i : ℕ) where
  first_length : 2 * i ≤ length bytes → length (steps_in (take (2 * i) bytes)) ≡ i
  first_length b = steps_length (take (2 * i) bytes) ∙ ap (λ (n : ℕ). n / 2) (length-take-le (2 * i) bytes b) ∙ omega arith

  first_steps : 2 * i ≤ length bytes → steps_in (take (2 * i) bytes) ≡ take i (steps_in bytes)
  unfolding steps_in
  first_steps b =
      ap (λ (n : ℕ). places n (step_at (take (2 * i) bytes))) (ap (λ (n : ℕ). n / 2) (length-take-le (2 * i) bytes b) ∙ halved)
      ∙ places_from_same (step_at (take (2 * i) bytes)) (step_at bytes) 0 i same
      ∙ sym (take_places_from (step_at bytes) 0 (length bytes / 2) i (omega (arith, b)))
    where
      halved : 2 * i / 2 ≡ i
      halved = omega arith

      same : (j : ℕ) → j < 0 + i → step_at (take (2 * i) bytes) j ≡ step_at bytes j
      same j l = rw (get_or-take (2 * i) bytes (2 * j) 0 (omega (arith, l)), get_or-take (2 * i) bytes (2 * j + 1) 0 (omega (arith, l)))

  tick_splits : 2 * i + 1 < length bytes → get_or bytes (2 * i) 0 ≡ guarded_tick_kind → get_or bytes (2 * i + 1) 0 ≡ 0
      → steps_in bytes ≡ steps_in (take (2 * i) bytes) ++ (step guarded_tick_kind 0 ∷ drop (suc i) (steps_in bytes))
  tick_splits b kind event =
      let there : i < length bytes / 2 = omega (arith, b) in
      let here : get_or (steps_in bytes) i no_step_lem ≡ step guarded_tick_kind 0 = steps_at bytes i there ∙ rw (kind, event) in
      split_at (steps_in bytes) i no_step_lem (rw (steps_length bytes) there)
      ∙ ap (λ (s : Step). take i (steps_in bytes) ++ (s ∷ drop (suc i) (steps_in bytes))) here
      ∙ ap (λ (l : List Step). l ++ (step guarded_tick_kind 0 ∷ drop (suc i) (steps_in bytes))) (sym (first_steps (omega (arith, b))))

-- a guarded tick is answered 0 where the check accepts
tick_granted : (t : Table) (m : Marking) → check t m ≡ Accepts → step_number t m (step guarded_tick_kind 0) ≡ 0
unfolding step_number
tick_granted t m accepted = rw (check_parts t m accepted).1

module _ (t : Table) (m : Marking) (accepted : check t m ≡ Accepts) where
  -- the marking that a run ends with, granted or refused
  ends : (number : ℕ) (steps : List Step) → Answered t (done number (end_of t m steps) m)
  ends number steps = go (eqb number 0)
    where
      go : (b : Bool) → Answered t (cond b (end_of t m steps) m)
      go true = answered t (end_of t m steps) (still_accepts t m accepted steps)
      go false = answered t m accepted

  -- 6. The runner's end marking, granted or refused: the check accepts it, the next guarded tick keeps its promise, and so on as in 5 ..
  pub run_ends : (steps : List Step) (room : ℕ) (answer : MarkingAnswer) → answer ≡ run t m steps room → Answered t answer.marking
  unfolding run
  run_ends steps room answer is = subst (λ (a : MarkingAnswer). Answered t a.marking) (sym is) (ends (run_number t m steps room) steps)

  pub run_bytes_ends : (bytes : List ℕ) (room : ℕ) (answer : MarkingAnswer) → answer ≡ run_bytes t m bytes room → Answered t answer.marking
  unfolding run_bytes
  run_bytes_ends bytes room answer is = subst (λ (a : MarkingAnswer). Answered t a.marking) (sym is) (ends (bytes_number t m bytes room) (steps_in bytes))

  -- a guarded tick of a trace is answered 0, whatever stands behind the answers, and it kept its promise
  module _ (before rest : List Step) where
    abbrev trace : List Step
    trace = before ++ (step guarded_tick_kind 0 ∷ rest)

    answers : answers_of t m trace ≡ answers_of t m before ++ (0 ∷ answers_of t (stepped t (end_of t m before) (step guarded_tick_kind 0)) rest)
    unfolding answers_of
    answers =
        answers_append t m before (step guarded_tick_kind 0 ∷ rest)
        ∙ ap (λ (n : ℕ). answers_of t m before ++ (n ∷ answers_of t (stepped t (end_of t m before) (step guarded_tick_kind 0)) rest)) granted
      where
        granted : step_number t (end_of t m before) (step guarded_tick_kind 0) ≡ 0
        granted = tick_granted t (end_of t m before) (still_accepts t m accepted before)

    grants : (later after : List ℕ) → after ≡ answers_of t m trace ++ later → (get_or after (length before) 0 ≡ 0) × Promise t (end_of t m before)
    grants later after written = (
      ap (λ (l : List ℕ). get_or l (length before) 0) (written ∙ ap (λ (l : List ℕ). l ++ later) answers ∙ append_assoc (answers_of t m before) _ later)
          ∙ get_or_at (answers_of t m before) 0 _ 0 (length before) (answers_length t m before),
      guarded_tick_lem t m accepted before,
    )

  -- .. and each guarded tick within the trace was granted, and kept the promise of 2, in the marking that the steps before it led to.
  pub run_grants : (before rest : List Step) (buffer after : List ℕ) (answer : MarkingAnswer)
      → let steps = before ++ (step guarded_tick_kind 0 ∷ rest) in
      answer ≡ run t m steps (length buffer) → answer.number ≡ 0 → after ≡ run_answers t m steps buffer
      → (get_or after (length before) 0 ≡ 0) × Promise t (end_of t m before)
  unfolding run run_answers
  run_grants before rest buffer after answer is granted written =
      let number : run_number t m (trace before rest) (length buffer) ≡ 0 = sym (ap (λ (a : MarkingAnswer). a.number) is) ∙ granted in
      grants before rest _ after (rw number at written)

  -- the same of a guarded tick at place i of a trace of bytes
  pub run_bytes_grants : (bytes : List ℕ) (i : ℕ) → 2 * i + 1 < length bytes → get_or bytes (2 * i) 0 ≡ guarded_tick_kind → get_or bytes (2 * i + 1) 0 ≡ 0
      → (buffer after : List ℕ) (answer : MarkingAnswer)
      → answer ≡ run_bytes t m bytes (length buffer) → answer.number ≡ 0 → after ≡ run_bytes_answers t m bytes buffer
      → (get_or after i 0 ≡ 0) × Promise t (end_of t m (steps_in (take (2 * i) bytes)))
  unfolding run_bytes run_bytes_answers
  run_bytes_grants bytes i b kind event buffer after answer is granted written =
      let number : bytes_number t m bytes (length buffer) ≡ 0 = sym (ap (λ (a : MarkingAnswer). a.number) is) ∙ granted in
      let before = steps_in (take (2 * i) bytes) in
      let rest = drop (suc i) (steps_in bytes) in
      let split : steps_in bytes ≡ before ++ (step guarded_tick_kind 0 ∷ rest) = tick_splits bytes i b kind event in
      let found = grants before rest _ after ((rw number at written) ∙ ap (λ (l : List Step). answers_of t m l ++ drop (length bytes / 2) buffer) split) in
      subst (λ (k : ℕ). (get_or after k 0 ≡ 0) × Promise t (end_of t m before)) (first_length bytes i (omega (arith, b))) found

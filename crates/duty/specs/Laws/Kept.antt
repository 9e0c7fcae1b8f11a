-- What the acting calls leave is judged 'done', granted or refused, so its image fills the buffer that the marking came in; and a fresh marking
-- is written wherever it has room. Assumes nothing.
use Rattle.std.specs.Prelude.{◌≡◌, refl, Bool, true, false, not, cond, List, ◌++◌, ℕ, ◌*◌, ◌/◌, eqb, ltb, length, Result, Ok, Err}
use Rattle.std.proofs.Common.{◌∙◌, append-nil, arith, drop_of_length-le, ne_eqb}
use Rattle.std.proofs.Math.Path.{ap, sym}
use Rattle.std.proofs.Math.ListN.{drop}
use Rattle.rules.specs.declared.Table.{Table}
use Rattle.rules.specs.declared.Marking.{Marking}
use Rattle.rules.specs.Answers.{MarkingAnswer}
use Rattle.rules.specs.declared.refusal.Refusal.{Refusal}
use Rattle.rules.specs.Results.{as_marking}
use Rattle.rules.specs.Holds.{empty_marking}
use Rattle.rules.specs.Numbers.{◌if◌, ◌else◌, done, check_number}
use Rattle.rules.specs.Judge.{events_fit, table_number, marking_number, marking_number_for, judged}
use Rattle.rules.specs.Image.{record_bytes, marking_image, write_number, write_marking, fresh}
use Rattle.rules.specs.Effect.{effect}
use Rattle.rules.specs.Time.{time, plain_tick, plain_tick_number}
use Rattle.rules.specs.Happen.{happen_number, happen}
use Rattle.rules.specs.Chain.{chain, chain_number, chain_answer, places_of, chain_list}
use Rattle.rules.specs.Check.{check}
use Rattle.rules.specs.Guard.{guarded, guarded_tick}
use Rattle.rules.specs.Sleep.{slept, slept_caused, sleep_number, sleep_answer, places_of as slept_places, sleep_list}
use Rattle.rules.specs.Trace.{steps_in, end_of, answers_of, bytes_number, run_bytes, run_bytes_answers}
use Rattle.rules.specs.Images.{table_of, images_number}
use Rattle.rules.proofs.Laws.Counting.{repeated_keeps}
use Rattle.rules.proofs.Laws.Numbers.{both_done, else_done, else_refused}
use Rattle.rules.proofs.Laws.Results.{refused_number}
use Rattle.rules.proofs.Laws.Judge.{good, good_marking}
use Rattle.rules.proofs.Laws.Written.{number_done, bytes_written}
use Rattle.rules.proofs.Laws.Trace.{guarded_judged, end_judged}
use Rattle.rules.proofs.Demand3.Facts.{effect_judged, time_judged}
use Rattle.image.specs.Theorems.{fresh_accepted}
use Rattle.duty.specs.Performing.{Fills, written_number, written}
use Rattle.duty.specs.Laws.Images.{marking_long}

-- done or not, if both are
either : (t : Table) (number : ℕ) (after before : Marking) → judged t after ≡ 0 → judged t before ≡ 0 → judged t (done number after before) ≡ 0
either t number after before p q = go (eqb number 0)
  where
    go : (b : Bool) → judged t (cond b after before) ≡ 0
    go true = p
    go false = q

module _ (t : Table) (m : Marking) (h : judged t m ≡ 0) where
  pub happen_judged : (e : ℕ) → judged t (happen t m e).marking ≡ 0
  unfolding happen
  happen_judged e = either t (judged t m else happen_number t m e) (effect t m e) m (effect_judged t m e h) h

  pub plain_tick_judged : judged t (plain_tick t m).marking ≡ 0
  unfolding plain_tick
  plain_tick_judged = either t (judged t m else plain_tick_number m) (time m) m (time_judged t m h) h

  pub guarded_tick_judged : judged t (guarded_tick t m).marking ≡ 0
  unfolding guarded_tick
  guarded_tick_judged = either t (check_number (check t m)) (guarded t m) m (guarded_judged t m h) h

  pub sleep_judged : (ticks room : ℕ) → judged t (sleep_answer t m ticks room).marking ≡ 0
  unfolding sleep_answer slept
  sleep_judged ticks room =
      either t (sleep_number t m ticks room) (slept t m ticks) m
      (repeated_keeps (guarded t) (λ (k : Marking). judged t k ≡ 0) (guarded_judged t) ticks m h) h

  pub run_judged : (steps : List ℕ) (room : ℕ) → judged t (run_bytes t m steps room).marking ≡ 0
  unfolding run_bytes
  run_judged steps room = either t (bytes_number t m steps room) (end_of t m (steps_in steps)) m (end_judged t m (steps_in steps) h) h

-- what is written into a list only where a number is 'done', told twice
told_twice : (number : ℕ) (after before : List ℕ) → done number after before ≡ done number (done number after before) before
told_twice number after before = go (eqb number 0)
  where
    go : (b : Bool) → cond b after before ≡ cond b (cond b after before) before
    go true = refl
    go false = refl

-- the runner's answers are there exactly where the trace is granted, an event's chain where that is, and what was caused where ticks are slept
-- through
pub answers_told : (t : Table) (m : Marking) (steps before : List ℕ)
    → run_bytes_answers t m steps before ≡ done (run_bytes t m steps (length before)).number (run_bytes_answers t m steps before) before
unfolding run_bytes run_bytes_answers
answers_told t m steps before =
    told_twice (bytes_number t m steps (length before)) (answers_of t m (steps_in steps) ++ drop (length steps / 2) before) before

pub chain_told : (t : Table) (m : Marking) (e : ℕ) (before : List ℕ)
    → chain_list t m e before ≡ done (chain_answer t m e (length before)).number (chain_list t m e before) before
unfolding chain_answer chain_list
chain_told t m e before = told_twice (chain_number t m e (length before)) (places_of (chain t m e) ++ drop (length (chain t m e)) before) before

pub sleep_told : (t : Table) (m : Marking) (ticks : ℕ) (before : List ℕ)
    → sleep_list t m ticks before ≡ done (sleep_answer t m ticks (length before)).number (sleep_list t m ticks before) before
unfolding sleep_answer sleep_list
sleep_told t m ticks before =
    told_twice (sleep_number t m ticks (length before)) (slept_places (slept_caused t m ticks) ++ drop (length (slept_caused t m ticks)) before) before

marking_done : (events : ℕ) (m : Marking) → marking_number_for events m ≡ 0 → marking_number m ≡ 0
unfolding marking_number_for
marking_done events m h = (both_done (1 if not (eqb m.events events)) _ (both_done (3 if not (events_fit events)) _ h).1).1

-- a marking that is judged 'done' beside the table of the images fills the marking's buffer
pub fills : (table marking : List ℕ) (m : Marking) → images_number table marking ≡ 0 → judged (table_of table) m ≡ 0 → Fills m marking
unfolding judged
fills table marking m read h = record {
  judged_done = marking_done (table_of table).events m (both_done (table_number (table_of table)) _ h).1;
  exact = ap (λ (n : ℕ). record_bytes * n) (good (table_of table) m h).marking_good.same_events ∙ sym (marking_long table marking read);
}

-- and is all that the buffer holds once it is written
pub filled : (m : Marking) (buffer : List ℕ) → Fills m buffer → write_marking m buffer ≡ marking_image m
filled m buffer f =
    bytes_written m buffer (number_done m (length buffer) f.judged_done (omega (arith, f.exact)))
    ∙ ap (λ (l : List ℕ). marking_image m ++ l) (drop_of_length-le buffer {i = record_bytes * m.events} (omega (arith, f.exact)))
    ∙ append-nil (marking_image m)

-- a fresh marking that is written: 14 is all that can be in the way, and later bytes stay
module _ (events : ℕ) (made : MarkingAnswer) (made-is : made ≡ fresh events) (h : made.number ≡ 0) (buffer : List ℕ) where
  fresh_done : (fresh events).number ≡ 0
  fresh_done = rw made-is at h

  number_fresh : write_number (fresh events).marking (length buffer) ≡ (14 if ltb (length buffer) (record_bytes * events))
  unfolding write_number
  number_fresh =
      let accepted = fresh_accepted events fresh_done in
      rw (marking_done events (fresh events).marking accepted, (good_marking events (fresh events).marking accepted).same_events)

  pub fresh_written : (number : ℕ) (put : List ℕ) → number ≡ write_number made.marking (length buffer) → put ≡ write_marking made.marking buffer
      → (number ≡ ((fresh events).number else 14 if ltb (length buffer) (record_bytes * events)))
      × (put ≡ done number (marking_image (fresh events).marking ++ drop (record_bytes * events) buffer) buffer)
  unfolding write_marking
  fresh_written number put n p =
      let m = (fresh events).marking in
      let as-made : number ≡ write_number m (length buffer) = n ∙ ap (λ (a : MarkingAnswer). write_number a.marking (length buffer)) made-is in
      let same : m.events ≡ events = (good_marking events m (fresh_accepted events fresh_done)).same_events in (
        as-made ∙ number_fresh ∙ sym (else_done _ fresh_done),
        p
            ∙ ap (λ (a : MarkingAnswer). write_marking a.marking buffer) made-is
            ∙ ap (λ (k : ℕ). done k (marking_image m ++ drop (record_bytes * m.events) buffer) buffer) (sym as-made)
            ∙ ap (λ (k : ℕ). done number (marking_image m ++ drop (record_bytes * k) buffer) buffer) same,
      )

-- the same of a result
pub fresh_put : (events : ℕ) (answer : Result Marking Refusal) → as_marking empty_marking answer ≡ fresh events → (buffer : List ℕ) (number : ℕ) (put : List ℕ)
    → number ≡ written_number answer (length buffer) → put ≡ written answer buffer
    → (number ≡ ((fresh events).number else 14 if ltb (length buffer) (record_bytes * events)))
    × (put ≡ done number (marking_image (fresh events).marking ++ drop (record_bytes * events) buffer) buffer)
fresh_put events (Ok m) e buffer number put n p = fresh_written events (as_marking empty_marking (Ok m)) e refl buffer number put n p
fresh_put events (Err r) e buffer number put n p =
    let same : number ≡ (fresh events).number = n ∙ ap (λ (a : MarkingAnswer). a.number) e in
    let refused : number ≡ 0 → ⊥ = λ z. refused_number r (sym n ∙ z) in (
      same ∙ sym (else_refused _ (λ z. refused (same ∙ z))),
      p ∙ rw (ne_eqb number 0 refused),
    )

-- What is heard of an input, by the results of the calls that read, run and write. Assumes nothing.
use Rattle.std.specs.Prelude.{◌≡◌, refl, Bool, true, false, ◌||◌, ltb, Result, Err, List, [], ◌∷◌, ◌++◌, ℕ, ◌≤◌, ◌/◌, length, drop, replicate, take, ◌-◌, ◌+◌, ◌*◌}
use Rattle.std.proofs.Common.{◌∙◌, ap, sym, subst, arith, le-ltb, ltb-false}
use Rattle.rules.specs.declared.Table.{Table}
use Rattle.rules.specs.declared.Marking.{Marking}
use Rattle.rules.specs.declared.refusal.Refusal.{Refusal}
use Rattle.rules.specs.Numbers.{◌if◌}
use Rattle.rules.specs.Results.{number_of, refusal_number, value_or}
use Rattle.rules.specs.Image.{record_bytes, write_number, write_marking}
use Rattle.rules.proofs.Laws.Judge.{good}
use Rattle.rules.specs.Trace.{most_steps, trace_number, steps_in, end_of, answers_of, bytes_number, run_bytes, run_bytes_answers}
use Rattle.rules.specs.Station.{station, longest_output, heard_number, heard_bytes, heard_output}
use Rattle.duties.specs.AtStart.{AtStart}
use Rattle.engine.specs.Heard.{Heard, after_marking}
use Rattle.engine.specs.Laws.Heard.{by_number_lem, steps_refused, steps_granted, still_long, end_fits, steps_told}
use Rattle.engine.specs.Laws.Results.{refused_done}
use Rattle.rules.proofs.Laws.Results.{refused_number}

-- a refusal that `?` hands on
pub heard_refused : (bytes before after : List ℕ) {r : Result ℕ Refusal} (refusal : Refusal) → r ≡ Err refusal → bytes ≡ refusal_number refusal ∷ []
    → after ≡ before → Heard bytes before r after
heard_refused bytes before after refusal was is same = subst (λ (r : Result ℕ Refusal). Heard bytes before r after) (sym was) (is, same)

-- room for as many steps as are granted is room for as many as there are
room_enough : (steps room : ℕ) → most_steps ≤ room → trace_number steps room ≡ trace_number steps steps
unfolding trace_number
room_enough steps room enough = go (ltb most_steps steps) refl
  where
    go : (long : Bool) → ltb most_steps steps ≡ long → (14 if (long || ltb room steps)) ≡ (14 if (long || ltb steps steps))
    go true e = refl
    go false e =
        let few : steps ≤ most_steps = ltb-false most_steps steps e in
        rw (le-ltb room steps (omega arith), le-ltb steps steps (omega arith)) refl

module _ (t : Table) (m : Marking) (kept before : List ℕ) (room : longest_output ≤ length before) where
  same_number : bytes_number t m kept (length before) ≡ by_number_lem t m kept (length kept)
  same_number = rw (room_enough (length kept / 2) (length before) (omega arith)) refl

  pub run_refused_number : {marking : Marking} (refusal : Refusal) → record { number = refusal_number refusal; marking = marking } ≡ run_bytes t m kept (length before)
      → refusal_number refusal ≡ bytes_number t m kept (length before)
  unfolding run_bytes
  run_refused_number refusal e = ap (λ a. a.number) e

  pub run_heard : (refusal : Refusal) → refusal_number refusal ≡ bytes_number t m kept (length before) → after_marking t m kept 0 ≡ refusal_number refusal ∷ []
  run_heard refusal is = steps_refused t m kept (is ∙ same_number) (refused_number refusal)

  -- steps that were run: few enough, and the end marking fits behind their answers
  module _ (after : Marking) (now : List ℕ) (answer : record { number = 0; marking = after } ≡ run_bytes t m kept (length before))
      (answers : now ≡ run_bytes_answers t m kept before) where
    granted : by_number_lem t m kept (length kept) ≡ 0
    unfolding run_bytes
    granted = sym (ap (λ a. a.number) answer ∙ same_number)

    done_number : bytes_number t m kept (length before) ≡ 0
    done_number = same_number ∙ granted

    end : after ≡ end_of t m (steps_in kept)
    unfolding run_bytes
    end = ap (λ a. a.marking) answer ∙ rw done_number

    written : now ≡ answers_of t m (steps_in kept) ++ drop (length kept / 2) before
    unfolding run_bytes_answers
    written = answers ∙ rw done_number

    pub few_run : (t.events ≤ 64) × (length kept / 2 ≤ most_steps)
    few_run = let known = steps_granted t m kept granted in ((good t m known.0).table_good.few_events, known.1)

    pub room_behind : length kept / 2 ≤ length now
    room_behind = omega (arith, still_long t m kept before granted room now written, few_run.1, room)

    pub not_refused : (refusal : Refusal) → refusal_number refusal ≡ write_number after (length (take (length now - length kept / 2) (drop (length kept / 2) now))) → ⊥
    not_refused refusal is = refused_number refusal (is ∙ end_fits t m kept before granted room now written after end)

    pub run_told : (put : List ℕ) → put ≡ write_marking after (take (length now - length kept / 2) (drop (length kept / 2) now))
        → AtStart (after_marking t m kept 0) before (length kept / 2 + record_bytes * t.events)
        (take (length kept / 2) now ++ (put ++ drop (length now - length kept / 2) (drop (length kept / 2) now)))
    run_told = steps_told t m kept before granted room now written after end

-- The call: a refusal writes nothing; else what is told of the whole input is what is written.
module _ (kept : List ℕ) (beyond : ℕ) (before : List ℕ) where
  abbrev number_of_call : ℕ
  number_of_call = heard_number (length kept) beyond (length before)

  pub station_refused : (refusal : Refusal) {r : Result ℕ Refusal} → r ≡ Err refusal → refusal_number refusal ≡ number_of_call
      → (number_of r ≡ number_of_call) × ((value_or 0 r ≡ length (heard_bytes kept beyond (length before))) × (before ≡ heard_output kept beyond before))
  unfolding heard_bytes heard_output
  station_refused refusal was is = (
    rw was is,
    (rw (was, ← is, refused_done refusal refl) refl, rw (← is, refused_done refusal refl) refl),
  )

  pub station_done : {count : ℕ} {after : List ℕ} → 0 ≡ number_of_call → AtStart (station (kept ++ replicate beyond 0)) before count after
      → (count ≡ length (heard_bytes kept beyond (length before))) × (after ≡ heard_output kept beyond before)
  unfolding heard_bytes heard_output
  station_done granted told = (rw (← granted) told.counted, rw (← granted) told.put)

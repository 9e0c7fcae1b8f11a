-- What the station's call writes, part by part: the answer to the whole input goes by the table, then the marking, then the steps, and of the
-- bytes beyond the kept ones only the number counts. It is a byte or more. Assumes nothing.
use Rattle.std.specs.Prelude.{◌≡◌, Bool, true, ◌||◌, cond, ◌⊎◌, ℕ, zero, suc, ◌<◌, ◌≤◌, ◌+◌, ◌-◌, ◌*◌, ◌/◌, ◌%◌, min, leb, ltb, take, get_or, set, replicate}
use Rattle.std.proofs.Math.Path.{refl, ap, sym}
use Rattle.std.proofs.Common.{◌∙◌, subst, inl, inr, length-append, length-take, length-drop, drop_of_length-le, take_all, take_at, drop_at, drop-drop}
use Rattle.std.proofs.Math.Bool.{false, not}
use mathlib.Core.List.{List, [], ◌∷◌, ◌++◌, append-nil, append_assoc}
use Rattle.std.proofs.Math.Logic.{⊎_elim}
use native.Mathlib.Omega.{arith}
use Rattle.std.proofs.Math.Dec.{eqb}
use Rattle.std.proofs.Math.ListN.{length, drop}
use Rattle.std.proofs.lemmas.List.{length-replicate, take-append-le}
use borrow.Author.Tests.{eqb-true, eqb-false, ne_eqb, lt-ltb, leb-true, leb-false}
use Rattle.rules.specs.declared.Table.{Table}
use Rattle.rules.specs.declared.Marking.{Marking}
use Rattle.rules.specs.Answers.{TableAnswer, MarkingAnswer}
use Rattle.rules.specs.Numbers.{◌if◌, ◌else◌, done}
use Rattle.rules.specs.Holds.{most_events}
use Rattle.rules.specs.Fields.{field}
use Rattle.rules.specs.Judge.{events_fit, table_number, marking_number, marking_number_for, judged}
use Rattle.rules.specs.Image.{record_bytes, events_in, read_table, read_marking, marking_image, write_number, write_marking}
use Rattle.rules.specs.Trace.{most_steps, trace_number, steps_in, end_of, answers_of}
use Rattle.rules.specs.Station.{table_bytes, station, longest_marking, longest_steps, longest_input, longest_output, heard_bytes, heard_output}
use Rattle.rules.proofs.Laws.Tests.{decide}
use Rattle.rules.proofs.Laws.Numbers.{both_done}
use Rattle.rules.proofs.Laws.Judge.{good}
use Rattle.rules.proofs.Laws.Fields.{field_lt, field_join, byte_field}
use Rattle.rules.proofs.Laws.Trace.{answers_length, steps_length, end_judged, bytes_granted}
use Rattle.rules.specs.Station.{table_part, marking_part, steps_part}
use Rattle.rules.proofs.Laws.Station.{number_of, station_number, station_is, too_long, granted_short, header_small}
use Rattle.rules.proofs.Laws.Station.{field_take, table_events, table_short, table_same, events_same, number_by, steps_left, heard_enough, heard_within}
use Rattle.rules.proofs.Laws.Written.{image_length, number_done, bytes_written}
use Rattle.engine.specs.Heard.{after_marking, after_table}
use Rattle.duties.specs.AtStart.{AtStart}

-- a part of what is there
pub take_least : (n : ℕ) (l : List ℕ) → take (min n (length l)) l ≡ take n l
take_least n l = go (leb n (length l)) refl
  where
    go : (b : Bool) → leb n (length l) ≡ b → take (min n (length l)) l ≡ take n l
    go true e = let h : n ≤ length l = leb-true n (length l) e in let k : min n (length l) ≡ n = omega arith in rw k
    go false e =
        let h : length l < n = leb-false n (length l) e in
        let k : min n (length l) ≡ length l = omega arith in
        rw (k, take_all n l (omega arith), take_all (length l) l (omega arith))

pub drop_least : (n : ℕ) (l : List ℕ) → drop (min n (length l)) l ≡ drop n l
drop_least n l = go (leb n (length l)) refl
  where
    go : (b : Bool) → leb n (length l) ≡ b → drop (min n (length l)) l ≡ drop n l
    go true e = let h : n ≤ length l = leb-true n (length l) e in let k : min n (length l) ≡ n = omega arith in rw k
    go false e =
        let h : length l < n = leb-false n (length l) e in
        let k : min n (length l) ≡ length l = omega arith in
        rw (k, drop_of_length-le l {i = n} (omega arith), drop_of_length-le l {i = length l} (omega arith))

-- all from place n on
pub to_end : (n : ℕ) (l : List ℕ) → take (length l - n) (drop n l) ≡ drop n l
to_end n l = take_all (length l - n) (drop n l) (omega (arith, length-drop n l))

-- the header's counts, in its first two bytes
pub header_is : (input : List ℕ) → get_or input 0 0 < 256 → get_or input 1 0 < 256
    → 4 + get_or input 0 0 / 2 + 6 * (get_or input 0 0 % 2 * 256 + get_or input 1 0) ≡ table_bytes input
header_is input a b =
    let first : field input 0 8 ≡ get_or input 0 0 = byte_field input 0 a in
    let second : field input 8 8 ≡ get_or input 1 0 = byte_field input 1 b in
    let events : field input 0 8 ≡ field input 0 7 * 2 + field input 7 1 = field_join input 0 7 1 in
    let relations : field input 7 9 ≡ field input 7 1 * 256 + field input 8 8 = field_join input 7 1 8 in
    let digit : field input 7 1 < 2 = field_lt input 7 1 in
    omega arith

pub parity : (a b : ℕ) → (a + b) % 2 ≡ (a % 2 + b % 2) % 2
parity a b = omega arith

-- one number, and then another: the first that is not 'done' is told
told_else : (a b : ℕ) (bytes : List ℕ) → done (a else b) bytes ((a else b) ∷ []) ≡ done a (done b bytes (b ∷ [])) (a ∷ [])
told_else zero b bytes = refl
told_else (suc a) b bytes = rw (ne_eqb (suc a) 0 (λ z. absurd (omega (arith, z))))

-- The whole input: the kept bytes, and zeros for those beyond
module _ (kept : List ℕ) (beyond : ℕ) (enough : (beyond ≡ 0) ⊎ (longest_input ≤ length kept)) where
  abbrev input : List ℕ
  input = kept ++ replicate beyond 0

  abbrev steps : ℕ
  steps = length (steps_part kept) + beyond

  -- what is told of the parts of the kept bytes
  abbrev by_parts : List ℕ
  by_parts =
      let table = read_table (table_part kept) in
      let marking = read_marking (events_in kept) (marking_part kept) in
      done table.number (done marking.number (after_marking table.table marking.marking (steps_part kept) beyond) (marking.number ∷ []))
      (table.number ∷ [])

  abbrev number : ℕ
  number = number_of (table_part kept) (events_in kept) (marking_part kept) steps

  parts_number : by_parts
      ≡ done number
      (let t = (read_table (table_part kept)).table in
      let m = (read_marking (events_in kept) (marking_part kept)).marking in
      answers_of t m (steps_in (steps_part kept)) ++ marking_image (end_of t m (steps_in (steps_part kept))))
      (number ∷ [])
  unfolding after_marking number_of
  parts_number =
      let table = read_table (table_part kept) in
      let marking = read_marking (events_in kept) (marking_part kept) in
      let rest = judged table.table marking.marking else 1 if eqb (steps % 2) 1 else trace_number (steps / 2) (steps / 2) in
      let bytes =
      answers_of table.table marking.marking (steps_in (steps_part kept))
      ++ marking_image (end_of table.table marking.marking (steps_in (steps_part kept))) in
      sym (told_else table.number (marking.number else rest) bytes
      ∙ ap {B = List ℕ} (λ l. done table.number l (table.number ∷ [])) (told_else marking.number rest bytes))

  pub heard_is : station input ≡ by_parts
  heard_is = ⊎_elim none some (decide (eqb beyond 0))
    where
      none : eqb beyond 0 ≡ true → station input ≡ by_parts
      none h =
          let e : beyond ≡ 0 = eqb-true beyond 0 h in
          let same : input ≡ kept = ap (λ (n : ℕ). kept ++ replicate n 0) e ∙ append-nil kept in
          let all : length (steps_part kept) ≡ steps = omega (arith, e) in
          ap station same
          ∙ station_is kept
          ∙ rw all (sym parts_number)

      some : eqb beyond 0 ≡ false → station input ≡ by_parts
      some h =
          let more : 0 < beyond = omega (arith, eqb-false beyond 0 h) in
          let full : longest_input ≤ length kept = ⊎_elim (λ z. absurd (omega (arith, z))) (λ l. l) enough in
          let size : length input ≡ length kept + beyond = length-append kept (replicate beyond 0) ∙ rw (length-replicate {A = ℕ} beyond 0) in
          let long : longest_input < length input = omega arith in
          let first : take longest_input input ≡ take longest_input kept = take-append-le longest_input kept (replicate beyond 0) full in
          let left : length (steps_part input) ≡ steps =
          steps_left input ∙ rw (table_same input kept first, events_same input kept first, size)
          (omega (arith, header_small kept, full, steps_left kept)) in
          let same : station_number input ≡ number = number_by input kept first steps left in
          let refused : number ≡ 0 → ⊥ = λ z. absurd (omega (arith, long, granted_short input (same ∙ z))) in
          too_long input long
          ∙ ap {B = List ℕ} (λ n. n ∷ []) same
          ∙ sym (parts_number ∙ rw (ne_eqb number 0 refused))

  -- what is told after a table, with its events beside it
  abbrev after_few : Table → ℕ → List ℕ → List ℕ
  after_few t events rest =
      let read = read_marking events (take (record_bytes * events) rest) in
      done read.number (after_marking t read.marking (drop (record_bytes * events) rest) beyond) (read.number ∷ [])

  -- the table's part, as the code cuts it
  module _ (size : ℕ) (cut : size ≡ min (table_bytes kept) (length kept)) (read : TableAnswer) (read_is : read ≡ read_table (take size kept)) where
    read_part : read ≡ read_table (table_part kept)
    read_part = read_is ∙ ap read_table (rw cut (take_least (table_bytes kept) kept))

    pub table_refused : (read.number ≡ 0 → ⊥) → station input ≡ read.number ∷ []
    table_refused h = heard_is ∙ rw (← read_part, ne_eqb read.number 0 h)

    module _ (h : read.number ≡ 0) where
      accepted : (read_table (table_part kept)).number ≡ 0
      accepted = rw read_part at h

      -- its events are the header's
      header_there : events_in (table_part kept) ≡ events_in kept
      header_there = field_take kept (table_bytes kept) 0 7 (omega arith)

      events_read : read.table.events ≡ events_in kept
      events_read = rw read_part ((table_events (table_part kept) accepted).0 ∙ header_there)

      pub few_read : read.table.events ≤ 64
      few_read = omega (arith, events_read, (table_events (table_part kept) accepted).1, header_there)

      rest_is : drop size kept ≡ drop (table_bytes kept) kept
      rest_is = rw cut (drop_least (table_bytes kept) kept)

      pub table_read : after_table read.table (take (length kept - size) (drop size kept)) beyond ≡ station input
      unfolding after_table
      table_read =
          ap (λ (l : List ℕ). after_table read.table l beyond) (to_end size kept ∙ rest_is)
          ∙ ap (λ (n : ℕ). after_few read.table n (drop (table_bytes kept) kept)) events_read
          ∙ ap (λ (k : TableAnswer). after_few k.table (events_in kept) (drop (table_bytes kept) kept)) read_part
          ∙ sym (heard_is ∙ ap (λ (n : ℕ). done n (after_few (read_table (table_part kept)).table (events_in kept) (drop (table_bytes kept) kept))
          (n ∷ [])) accepted)

      pub rest_there : (beyond ≡ 0) ⊎ (longest_marking + longest_steps ≤ length (take (length kept - size) (drop size kept)))
      rest_there = rw (to_end size kept)
          (⊎_elim (λ z. inl z) (λ l. inr
          (omega (arith, l, table_short (take size kept) (rw read_is at h), length-take size kept, length-drop size kept))) enough)

-- The marking's part
module _ (t : Table) (rest : List ℕ) (beyond size : ℕ) (cut : size ≡ min (record_bytes * t.events) (length rest))
    (read : MarkingAnswer) (read_is : read ≡ read_marking t.events (take size rest)) where
  marking_part_lem : read ≡ read_marking t.events (take (record_bytes * t.events) rest)
  marking_part_lem = read_is ∙ ap (read_marking t.events) (rw cut (take_least (record_bytes * t.events) rest))

  pub marking_refused : (read.number ≡ 0 → ⊥) → after_table t rest beyond ≡ read.number ∷ []
  unfolding after_table
  marking_refused h = rw (← marking_part_lem, ne_eqb read.number 0 h)

  pub marking_read : read.number ≡ 0 → after_marking t read.marking (take (length rest - size) (drop size rest)) beyond ≡ after_table t rest beyond
  unfolding after_table
  marking_read h =
      let whole : drop size rest ≡ drop (record_bytes * t.events) rest = rw cut (drop_least (record_bytes * t.events) rest) in
      rw (to_end size rest, whole, ← marking_part_lem, h)

  pub steps_there : t.events ≤ most_events → (beyond ≡ 0) ⊎ (longest_marking + longest_steps ≤ length rest)
      → (beyond ≡ 0) ⊎ (longest_steps ≤ length (take (length rest - size) (drop size rest)))
  steps_there few enough = rw (to_end size rest) (⊎_elim (λ z. inl z) (λ l. inr (omega (arith, l, few, cut, length-drop size rest))) enough)

-- The steps
module _ (t : Table) (m : Marking) (kept : List ℕ) where
  pub steps_long : (beyond : ℕ) → (beyond ≡ 0 → ⊥) → (beyond ≡ 0) ⊎ (longest_steps ≤ length kept)
      → {n : ℕ} → n ≡ (judged t m else 1 if eqb ((length kept + beyond) % 2) 1 else 14) → after_marking t m kept beyond ≡ n ∷ []
  unfolding after_marking trace_number
  steps_long beyond more enough {n} e = rw (same (eqb ((length kept + beyond) % 2) 1) refl, ← e, ne_eqb n 0 refused)
    where
      full : longest_steps ≤ length kept
      full = ⊎_elim (λ z. absurd (more z)) (λ l. l) enough

      steps : ℕ
      steps = length kept + beyond

      same : (odd : Bool) → eqb (steps % 2) 1 ≡ odd
          → (judged t m else 1 if odd else 14 if (ltb most_steps (steps / 2) || ltb (steps / 2) (steps / 2))) ≡ (judged t m else 1 if odd else 14)
      same true e = refl
      same false e = rw (lt-ltb most_steps (steps / 2) (omega (arith, full, more, eqb-false (steps % 2) 1 e)))

      refused : n ≡ 0 → ⊥
      refused z =
          let p = both_done (judged t m) (1 if eqb (steps % 2) 1 else 14) (sym e ∙ z) in
          let q = both_done (1 if eqb (steps % 2) 1) 14 p.1 in
          absurd (omega (arith, q.1))

  abbrev pub by_number_lem : ℕ → ℕ
  by_number_lem n = judged t m else 1 if eqb (n % 2) 1 else trace_number (n / 2) (length kept / 2)

  pub steps_refused : {n : ℕ} → n ≡ by_number_lem (length kept) → (n ≡ 0 → ⊥) → after_marking t m kept 0 ≡ n ∷ []
  unfolding after_marking
  steps_refused {n} e h = let all : length kept + 0 ≡ length kept = omega arith in rw (all, ← e, ne_eqb n 0 h)

  pub steps_done : by_number_lem (length kept) ≡ 0 → after_marking t m kept 0 ≡ answers_of t m (steps_in kept) ++ marking_image (end_of t m (steps_in kept))
  unfolding after_marking
  steps_done h = let all : length kept + 0 ≡ length kept = omega arith in rw (all, h)

  -- and what is known then
  pub steps_granted : by_number_lem (length kept) ≡ 0 → (judged t m ≡ 0) × (length kept / 2 ≤ most_steps)
  steps_granted h = let known = bytes_granted t m kept (length kept / 2) h in (known.0, known.1.1)

-- Writing
pub told_one : (n : ℕ) (before : List ℕ) → 1 ≤ length before → AtStart (n ∷ []) before 1 (set before 0 n)
told_one n [] h = absurd (omega arith)
told_one n (b ∷ before) h = record { counted = refl; put = refl }

-- answers, and a marking behind them
module _ (t : Table) (after : Marking) (judged_done : judged t after ≡ 0) (answers before now : List ℕ) (count : ℕ) (counted : length answers ≡ count)
    (room : count + longest_marking ≤ length before) (now-is : now ≡ answers ++ drop count before) where
  same_events : after.events ≡ t.events
  same_events = (good t after judged_done).marking_good.same_events

  few : t.events ≤ most_events
  few = (good t after judged_done).table_good.few_events

  marking_done : marking_number after ≡ 0
  unfolding judged marking_number_for
  marking_done =
      let p = both_done (table_number t) (marking_number_for t.events after) judged_done in
      let q = both_done (3 if not (events_fit t.events)) _ p.1 in
      (both_done (1 if not (eqb after.events t.events)) _ q.1).1

  there : drop count now ≡ drop count before
  there = rw now-is (drop_at answers (drop count before) count counted)

  long : length (drop count before) ≡ length before - count
  long = length-drop count before

  whole : take (length now - count) (drop count now) ≡ drop count before
  whole = rw there (take_all (length now - count) (drop count before) (omega (arith, long, sized)))
    where
      sized : length now ≡ count + length (drop count before)
      sized = rw now-is (length-append answers (drop count before) ∙ rw counted)

  nothing_more : drop (length now - count) (drop count now) ≡ []
  nothing_more = rw there (drop_of_length-le (drop count before) {i = length now - count} (omega (arith, long, sized)))
    where
      sized : length now ≡ count + length (drop count before)
      sized = rw now-is (length-append answers (drop count before) ∙ rw counted)

  -- there is room for it
  pub fits_behind : write_number after (length (take (length now - count) (drop count now))) ≡ 0
  fits_behind = rw whole (number_done after (length (drop count before)) marking_done (omega (arith, few, same_events, long, room)))

  image_long : length (marking_image after) ≡ record_bytes * t.events
  image_long = image_length after ∙ rw same_events

  pub told_behind : (put : List ℕ) → put ≡ write_marking after (take (length now - count) (drop count now))
      → AtStart (answers ++ marking_image after) before (count + record_bytes * t.events) (take count now ++ (put ++ drop (length now - count) (drop count now)))
  told_behind put e = record { counted = bytes_long; put = bytes_put }
    where
      total : length (answers ++ marking_image after) ≡ count + record_bytes * t.events
      total = length-append answers (marking_image after) ∙ rw (counted, image_long)

      bytes_long : count + record_bytes * t.events ≡ length (answers ++ marking_image after)
      bytes_long = sym total

      granted : write_number after (length (drop count before)) ≡ 0
      granted = number_done after (length (drop count before)) marking_done (omega (arith, few, same_events, long, room))

      put_is : put ≡ marking_image after ++ drop (record_bytes * t.events) (drop count before)
      put_is = e ∙ ap (write_marking after) whole ∙ bytes_written after (drop count before) granted ∙ rw same_events

      bytes_put : take count now ++ (put ++ drop (length now - count) (drop count now))
          ≡ (answers ++ marking_image after) ++ drop (length (answers ++ marking_image after)) before
      bytes_put =
          rw (nothing_more, append-nil put, put_is, total, ← drop-drop (record_bytes * t.events) count before)
          (rw now-is (rw (take_at answers (drop count before) count counted)
          (sym (append_assoc answers (marking_image after) (drop (record_bytes * t.events) (drop count before))))))

-- steps that are granted: their answers, and the end marking behind them
module _ (t : Table) (m : Marking) (kept before : List ℕ) (granted : by_number_lem t m kept (length kept) ≡ 0) (room : longest_output ≤ length before)
    (now : List ℕ) (now-is : now ≡ answers_of t m (steps_in kept) ++ drop (length kept / 2) before) where
  abbrev count : ℕ
  count = length kept / 2

  counted : length (answers_of t m (steps_in kept)) ≡ count
  counted = answers_length t m (steps_in kept) ∙ steps_length kept

  pub still_long : length now ≡ length before
  still_long =
      rw now-is (length-append (answers_of t m (steps_in kept)) (drop count before)
      ∙ rw (counted, length-drop count before) (omega (arith, (steps_granted t m kept granted).1, room)))

  pub end_fits : (after : Marking) → after ≡ end_of t m (steps_in kept) → write_number after (length (take (length now - count) (drop count now))) ≡ 0
  end_fits after e =
      let known = steps_granted t m kept granted in
      fits_behind t after (subst (λ (k : Marking). judged t k ≡ 0) (sym e) (end_judged t m (steps_in kept) known.0))
      (answers_of t m (steps_in kept)) before now count counted (omega (arith, known.1, room)) now-is

  pub steps_told : (after : Marking) → after ≡ end_of t m (steps_in kept)
      → (put : List ℕ) → put ≡ write_marking after (take (length now - count) (drop count now))
      → AtStart (after_marking t m kept 0) before (count + record_bytes * t.events) (take count now ++ (put ++ drop (length now - count) (drop count now)))
  steps_told after e put f =
      let known = steps_granted t m kept granted in
      let bytes : answers_of t m (steps_in kept) ++ marking_image after ≡ after_marking t m kept 0 =
      ap (λ (k : Marking). answers_of t m (steps_in kept) ++ marking_image k) e ∙ sym (steps_done t m kept granted) in
      subst (λ (l : List ℕ). AtStart l before (count + record_bytes * t.events) (take count now ++ (put ++ drop (length now - count) (drop count now)))) bytes
      (told_behind t after (subst (λ (k : Marking). judged t k ≡ 0) (sym e) (end_judged t m (steps_in kept) known.0))
      (answers_of t m (steps_in kept)) before now count counted (omega (arith, known.1, room)) now-is put f)

-- Every input is answered by a byte or more: one for a refusal, else the end marking of at least one event
pub some_byte : (input : List ℕ) → 0 < length (station input)
unfolding number_of
some_byte input = rw (station_is input) (go (eqb (station_number input) 0) refl)
  where
    table : TableAnswer
    table = read_table (table_part input)

    marking : MarkingAnswer
    marking = read_marking (events_in input) (marking_part input)

    after : Marking
    after = end_of table.table marking.marking (steps_in (steps_part input))

    answers : List ℕ
    answers = answers_of table.table marking.marking (steps_in (steps_part input))

    go : (granted : Bool) → eqb (station_number input) 0 ≡ granted → 0 < length (cond granted (answers ++ marking_image after) (station_number input ∷ []))
    go false e = omega arith
    go true e =
        let a = both_done table.number _ (eqb-true (station_number input) 0 e) in
        let b = both_done marking.number _ a.1 in
        let c = both_done (judged table.table marking.marking) _ b.1 in
        let known = good table.table after (end_judged table.table marking.marking (steps_in (steps_part input)) c.0) in
        omega (arith, length-append answers (marking_image after), image_length after, known.marking_good.same_events, known.table_good.some_events)

-- so the call writes one or more, within the output, where it has room and enough bytes are kept
pub call_writes : (kept : List ℕ) (beyond : ℕ) (before : List ℕ) {count : ℕ} {after : List ℕ}
    → (count ≡ length (heard_bytes kept beyond (length before))) × (after ≡ heard_output kept beyond before)
    → longest_output ≤ length before → (beyond ≡ 0) ⊎ (longest_input ≤ length kept) → (0 < count) × (count ≤ length after)
unfolding heard_bytes
call_writes kept beyond before p fits enough = rw (p.0, p.1)
    (rw (heard_enough (length kept) beyond (length before) fits enough) (some_byte (kept ++ replicate beyond 0)), heard_within kept beyond before)

-- What the station writes for an input longer than the longest that can be granted depends on its first bytes and its length alone: such an
-- input is refused, and no number looks further. So the call that is handed these answers for the whole input. Assumes nothing.
use Rattle.std.specs.Prelude.{◌≡◌, refl, Bool, not, ◌&&◌, ◌||◌, List, [], ◌∷◌, ◌++◌, ◌⊎◌, ℕ, zero, suc, ◌<◌, ◌≤◌, ◌+◌, ◌-◌, ◌*◌, ◌/◌, ◌%◌, min, eqb, ltb, drop}
use Rattle.std.proofs.Common.{◌∙◌, sym, append-nil, ⊎_elim, inl, inr, zero-add, suc-add, length-append, length-take, length-drop, take_all, get_or-take}
use Rattle.std.proofs.Math.Path.{ap}
use Rattle.std.proofs.Math.Bool.{true, false}
use native.Mathlib.Omega.{arith}
use Rattle.std.proofs.Math.Dec.{leb}
use Rattle.std.proofs.Math.ListN.{length, take, replicate, length-replicate}
use Rattle.std.proofs.Math.Seq.{take-take, take-append-le, take-nil, drop-nil}
use borrow.Author.Tests.{eqb-true, eqb-false, leb-true, leb-false, le-ltb, ltb-false, ne_eqb}
use Rattle.rules.specs.Numbers.{◌if◌, ◌else◌, done}
use Rattle.rules.specs.Holds.{most_events, most_relations}
use Rattle.rules.specs.Fields.{field}
use Rattle.rules.specs.Judge.{events_fit, relations_fit, judged}
use Rattle.rules.specs.Image.{events_in, relations_in, header_spare, table_length, table_image_number, table_in, read_table, record_bytes, marking_image_number}
use Rattle.rules.specs.Image.{read_marking, marking_image}
use Rattle.rules.specs.Trace.{most_steps, trace_number, steps_in, end_of, answers_of}
use Rattle.rules.specs.Station.{table_bytes, marking_bytes, table_part, marking_part, steps_part}
use Rattle.rules.specs.Station.{station, longest_marking, longest_steps, longest_input, longest_output, heard_number, heard_bytes, heard_output}
use Rattle.rules.proofs.Laws.Fields.{field_lt}
use Rattle.rules.proofs.Laws.Tests.{decide, both, not_false, neither}
use Rattle.rules.proofs.Laws.Numbers.{if_done, both_done}
use Rattle.rules.proofs.Laws.Fit.{fit_few}

-- the longest table that is granted, in bytes
abbrev pub longest_table : ℕ
longest_table = table_length most_events most_relations

-- a field that ends within the first n bytes is one of these bytes
pub field_take : (image : List ℕ) (n p width : ℕ) → p + width ≤ 8 * n → field (take n image) p width ≡ field image p width
unfolding field
field_take image n p zero h = refl
field_take image n p (suc width) h =
    let byte : (p + width) / 8 < n = omega arith in
    rw (field_take image n p width (omega arith), get_or-take n image ((p + width) / 8) 0 byte)

pub drop_take : {A : Type 0} (n m : ℕ) (l : List A) → drop n (take (n + m) l) ≡ take m (drop n l)
drop_take zero m l = rw zero-add
drop_take {A} (suc n) m [] = rw (take-nil {A = A} (suc n + m), drop-nil {A = A} (suc n), take-nil {A = A} m)
drop_take (suc n) m (a ∷ l) = rw suc-add (drop_take n m l)

-- the number of an input, by the two images and the number of step bytes
unfoldable pub number_of : List ℕ → ℕ → List ℕ → ℕ → ℕ
number_of table events marking steps =
    (read_table table).number
    else (read_marking events marking).number
    else judged (read_table table).table (read_marking events marking).marking
    else 1 if eqb (steps % 2) 1
    else trace_number (steps / 2) (steps / 2)

abbrev pub station_number : List ℕ → ℕ
station_number input = number_of (table_part input) (events_in input) (marking_part input) (length (steps_part input))

-- what is written
pub station_is : (input : List ℕ) → station input ≡ done (station_number input)
    (let t = (read_table (table_part input)).table in
    let m = (read_marking (events_in input) (marking_part input)).marking in
    answers_of t m (steps_in (steps_part input)) ++ marking_image (end_of t m (steps_in (steps_part input))))
    (station_number input ∷ [])
unfolding station number_of
station_is input = refl

-- What is granted is short.
pub table_short : (image : List ℕ) → (read_table image).number ≡ 0 → length image ≤ longest_table
unfolding read_table table_image_number
table_short image h =
    let n = events_in image in
    let relations = relations_in image in
    let counts = events_fit n && relations_fit relations in
    let whole = eqb (length image) (table_length n relations) in
    let a = both_done (1 if ltb (length image) 4) _ h in
    let b = both_done (2 if not (eqb (header_spare image) 0)) _ a.1 in
    let c = both_done (3 if not counts) _ b.1 in
    let d = both_done (1 if not whole) _ c.1 in
    let fit = both (events_fit n) (relations_fit relations) (not_false counts (if_done 2 (not counts) c.0)) in
    let e : length image ≡ table_length n relations = eqb-true (length image) (table_length n relations) (not_false whole (if_done 0 (not whole) d.0)) in
    let l : n ≤ most_events = fit_few n fit.0 in
    let k : relations ≤ most_relations = leb-true relations most_relations fit.1 in
    omega arith

-- the events of a table that is read are its header's, and few
pub table_events : (image : List ℕ) → (read_table image).number ≡ 0
    → ((read_table image).table.events ≡ events_in image) × (events_in image ≤ most_events)
unfolding read_table table_image_number table_in
table_events image h =
    let n = events_in image in
    let counts = events_fit n && relations_fit (relations_in image) in
    let a = both_done (1 if ltb (length image) 4) _ h in
    let b = both_done (2 if not (eqb (header_spare image) 0)) _ a.1 in
    let c = both_done (3 if not counts) _ b.1 in
    let fit = both (events_fit n) (relations_fit (relations_in image)) (not_false counts (if_done 2 (not counts) c.0)) in
    (rw h, fit_few n fit.0)

pub marking_short : (events : ℕ) (image : List ℕ) → (read_marking events image).number ≡ 0 → length image ≤ longest_marking
unfolding read_marking marking_image_number
marking_short events image h =
    let whole = eqb (length image) (record_bytes * events) in
    let a = both_done (3 if not (events_fit events)) _ h in
    let b = both_done (1 if not whole) _ a.1 in
    let e : length image ≡ record_bytes * events = eqb-true (length image) (record_bytes * events) (not_false whole (if_done 0 (not whole) b.0)) in
    let l : events ≤ most_events = fit_few events (not_false (events_fit events) (if_done 2 (not (events_fit events)) a.0)) in
    omega arith

steps_short : (steps : ℕ) → (1 if eqb (steps % 2) 1 else trace_number (steps / 2) (steps / 2)) ≡ 0 → steps ≤ longest_steps
unfolding trace_number
steps_short steps h =
    let long = ltb most_steps (steps / 2) in
    let tight = ltb (steps / 2) (steps / 2) in
    let a = both_done (1 if eqb (steps % 2) 1) _ h in
    let few = ltb-false most_steps (steps / 2) (neither long tight (if_done 13 (long || tight) a.1)).0 in
    let even = eqb-false (steps % 2) 1 (if_done 0 (eqb (steps % 2) 1) a.0) in
    omega (arith, few, even)

-- the three parts are the input
parts_length : (a b : ℕ) (input : List ℕ) → length (take a input) + length (take b (drop a input)) + length (drop b (drop a input)) ≡ length input
parts_length a b input = simp (length-take, length-drop) (omega arith)

pub granted_short : (input : List ℕ) → station_number input ≡ 0 → length input ≤ longest_input
unfolding number_of
granted_short input h =
    let t = read_table (table_part input) in
    let m = read_marking (events_in input) (marking_part input) in
    let a = both_done t.number _ h in
    let b = both_done m.number _ a.1 in
    let c = both_done (judged t.table m.marking) _ b.1 in
    omega (
      arith,
      table_short (table_part input) a.0,
      marking_short (events_in input) (marking_part input) b.0,
      steps_short (length (steps_part input)) c.1,
      parts_length (table_bytes input) (marking_bytes input) input,
    )

-- an input that is too long is refused
pub too_long : (input : List ℕ) → longest_input < length input → station input ≡ station_number input ∷ []
too_long input h = station_is input ∙ rw (ne_eqb (station_number input) 0 (λ z. absurd (omega (arith, granted_short input z))))

-- The parts that are read lie within the first bytes, whatever the header says.
pub header_small : (input : List ℕ) → table_bytes input + marking_bytes input ≤ longest_input
header_small input = omega (arith, field_lt input 0 7, field_lt input 7 9)

module _ (input : List ℕ) where
  abbrev first : List ℕ
  first = take longest_input input

  events_first : events_in first ≡ events_in input
  events_first = field_take input longest_input 0 7 (omega arith)

  relations_first : relations_in first ≡ relations_in input
  relations_first = field_take input longest_input 7 9 (omega arith)

  table_first : table_bytes first ≡ table_bytes input
  table_first = rw (events_first, relations_first)

  pub table_part_first : table_part first ≡ table_part input
  table_part_first = rw (table_first) (take-take (table_bytes input) longest_input input (omega (arith, header_small input)))

  pub marking_part_first : marking_part first ≡ marking_part input
  marking_part_first =
      let size = table_bytes input in
      let rest = marking_bytes input in
      let more : longest_input ≡ size + (longest_input - size) = omega (arith, header_small input) in
      rw (events_first, relations_first)
      (ap {B = List ℕ} (λ k. take rest (drop size (take k input))) more
      ∙ ap {B = List ℕ} (take rest) (drop_take size (longest_input - size) input)
      ∙ take-take rest (longest_input - size) (drop size input) (omega (arith, header_small input)))

-- the number of step bytes is what is left of the length
pub steps_left : (input : List ℕ) → length (steps_part input) ≡ length input - table_bytes input - marking_bytes input
steps_left input = simp length-drop

-- two inputs with the same first bytes have the same parts before the steps
module _ (a b : List ℕ) (same_first : take longest_input a ≡ take longest_input b) where
  pub events_same : events_in a ≡ events_in b
  events_same = sym (events_first a) ∙ ap events_in same_first ∙ events_first b

  pub table_same : table_bytes a ≡ table_bytes b
  table_same = sym (table_first a) ∙ ap table_bytes same_first ∙ table_first b

  pub table_part_same : table_part a ≡ table_part b
  table_part_same = sym (table_part_first a) ∙ ap table_part same_first ∙ table_part_first b

  pub marking_part_same : marking_part a ≡ marking_part b
  marking_part_same = sym (marking_part_first a) ∙ ap marking_part same_first ∙ marking_part_first b

  -- so their number goes by the number of step bytes
  pub number_by : (steps : ℕ) → length (steps_part a) ≡ steps → station_number a ≡ number_of (table_part b) (events_in b) (marking_part b) steps
  number_by steps e =
      ap (λ (l : List ℕ). number_of l (events_in a) (marking_part a) (length (steps_part a))) table_part_same
      ∙ ap (λ (l : List ℕ). number_of (table_part b) (events_in a) l (length (steps_part a))) marking_part_same
      ∙ ap (λ (n : ℕ). number_of (table_part b) n (marking_part b) (length (steps_part a))) events_same
      ∙ ap (number_of (table_part b) (events_in b) (marking_part b)) e

-- what is written goes by the first bytes and the length
module _ (a b : List ℕ) (same_length : length a ≡ length b) (same_first : take longest_input a ≡ take longest_input b) where
  steps_same : length (steps_part a) ≡ length (steps_part b)
  steps_same = steps_left a ∙ rw (same_length, table_same a b same_first, events_same a b same_first) (sym (steps_left b))

  pub same_answer : station a ≡ station b
  same_answer = ⊎_elim short long (decide (leb (length a) longest_input))
    where
      short : leb (length a) longest_input ≡ true → station a ≡ station b
      short h =
          let l : length a ≤ longest_input = leb-true (length a) longest_input h in
          ap station (sym (take_all longest_input a l) ∙ same_first ∙ take_all longest_input b (rw same_length at l))

      long : leb (length a) longest_input ≡ false → station a ≡ station b
      long h =
          let l : longest_input < length a = leb-false (length a) longest_input h in
          too_long a l
          ∙ ap {B = List ℕ} (λ n. n ∷ []) (number_by a b same_first (length (steps_part b)) steps_same)
          ∙ sym (too_long b (omega (arith, same_length)))

-- The call that the program stands on. Where it is granted the output has room, and enough bytes are kept
pub heard_granted : (kept beyond room : ℕ) → heard_number kept beyond room ≡ 0 → (longest_output ≤ room) × ((beyond ≡ 0) ⊎ (longest_input ≤ kept))
unfolding heard_number
heard_granted kept beyond room h = (ltb-false room longest_output p.0, go (eqb beyond 0) refl p.1)
  where
    p : (ltb room longest_output ≡ false) × (not (eqb beyond 0) && ltb kept longest_input ≡ false)
    p = neither (ltb room longest_output) (not (eqb beyond 0) && ltb kept longest_input)
        (if_done 13 (ltb room longest_output || not (eqb beyond 0) && ltb kept longest_input) h)

    go : (none : Bool) → eqb beyond 0 ≡ none → not none && ltb kept longest_input ≡ false → (beyond ≡ 0) ⊎ (longest_input ≤ kept)
    go true e q = inl (eqb-true beyond 0 e)
    go false e q = inr (ltb-false kept longest_input q)

pub heard_enough : (kept beyond room : ℕ) → longest_output ≤ room → (beyond ≡ 0) ⊎ (longest_input ≤ kept) → heard_number kept beyond room ≡ 0
unfolding heard_number
heard_enough kept beyond room fits enough =
    rw (le-ltb room longest_output fits) (⊎_elim (λ z. rw z) (λ l. rw (le-ltb kept longest_input l) (ap (14 if◌) (none (eqb beyond 0)))) enough)
  where
    none : (b : Bool) → not b && false ≡ false
    none true = refl
    none false = refl

-- what it writes stands in the output
pub heard_within : (kept : List ℕ) (beyond : ℕ) (output : List ℕ) → length (heard_bytes kept beyond (length output)) ≤ length (heard_output kept beyond output)
unfolding heard_output
heard_within kept beyond output =
    let bytes = heard_bytes kept beyond (length output) in
    omega (arith, length-append bytes (drop (length bytes) output))

-- The program hands over the first bytes of its input, and how many came after them. With room for the longest output that is never refused, and
-- what is written is the station's answer to the whole input
module _ (input : List ℕ) (room : ℕ) (enough : longest_output ≤ room) where
  abbrev kept : List ℕ
  kept = take longest_input input

  abbrev beyond : ℕ
  beyond = length input - longest_input

  kept_length : length kept ≡ min longest_input (length input)
  kept_length = length-take longest_input input

  pub whole_granted : heard_number (length kept) beyond room ≡ 0
  whole_granted = heard_enough (length kept) beyond room enough (⊎_elim
      (λ h. inr (omega (arith, leb-true longest_input (length input) h, kept_length)))
      (λ h. inl (omega (arith, leb-false longest_input (length input) h)))
      (decide (leb longest_input (length input))))

  pub whole_heard : heard_bytes kept beyond room ≡ station input
  unfolding heard_bytes
  whole_heard = rw whole_granted
      (same_answer (kept ++ replicate beyond 0) input
      (length-append kept (replicate beyond 0) ∙ rw (kept_length, length-replicate {A = ℕ} beyond 0) (omega arith))
      (first (leb longest_input (length input)) refl))
    where
      first : (full : Bool) → leb longest_input (length input) ≡ full → take longest_input (kept ++ replicate beyond 0) ≡ take longest_input input
      first true e =
          let long : longest_input ≤ length input = leb-true longest_input (length input) e in
          take-append-le longest_input kept (replicate beyond 0) (omega (arith, long, kept_length))
          ∙ take-take longest_input longest_input input (omega arith)
      first false e =
          let short : length input < longest_input = leb-false longest_input (length input) e in
          let none : beyond ≡ 0 = omega arith in
          ap (λ (n : ℕ). take longest_input (kept ++ replicate n 0)) none
          ∙ ap (take longest_input) (append-nil kept)
          ∙ take-take longest_input longest_input input (omega arith)

-- A trace: running one and then another is running both, refused steps leave the marking, and judged values stay judged. With what a loop
-- knows after i steps. Assumes nothing.
use Rattle.std.specs.Prelude.{◌≡◌, Bool, not, ◌||◌, leb, ltb, take, get_or}
use Rattle.std.proofs.Math.Path.{refl, ap, sym, subst}
use Rattle.std.proofs.Common.{◌∙◌, add-one, arith, take-suc, take_all, drop-cons}
use Rattle.std.proofs.Math.Bool.{true, false, cond}
use mathlib.Core.List.{List, [], ◌∷◌, ◌++◌}
use Prim.Native.Nat.{ℕ, zero, suc, ◌<◌, ◌≤◌, ◌+◌, ◌*◌, ◌/◌, ◌%◌}
use Rattle.std.proofs.Math.Dec.{eqb}
use Rattle.std.proofs.Math.ListN.{length, drop, set, length-set}
use Rattle.std.proofs.Math.Seq.{set_at, length-take-le, append_snoc}
use borrow.Author.Tests.{eqb-true, ne_eqb, le-leb, lt-ltb, ltb-false}
use Rattle.rules.specs.declared.Table.{Table}
use Rattle.rules.specs.declared.Marking.{Marking}
use Rattle.rules.specs.declared.Step.{Step}
use Rattle.rules.specs.Answers.{MarkingAnswer}
use Rattle.rules.specs.Numbers.{◌if◌, done, check_number}
use Rattle.rules.specs.Judge.{judged}
use Rattle.rules.specs.Effect.{effect}
use Rattle.rules.specs.Time.{time, plain_tick_number}
use Rattle.rules.specs.Happen.{happen_number}
use Rattle.rules.specs.Check.{verdict}
use Rattle.rules.specs.Guard.{order, goes_ahead, taken, taken_all, guarded}
use Rattle.rules.specs.Trace.{last_happen_kind, plain_tick_kind, guarded_tick_kind, most_steps, wrong_step}
use Rattle.rules.specs.Trace.{step_number, step_done, stepped, end_of, answers_of, trace_number, steps_in, bytes_number, run_bytes, run_bytes_answers}
use Rattle.rules.specs.Shapes.Turned.{turned}
use Rattle.rules.proofs.Laws.Tests.{join, or_left, or_right, neither}
use Rattle.rules.proofs.Laws.Numbers.{if_done, both_done}
use Rattle.rules.proofs.Laws.Counting.{length_places, places_at}
use Rattle.rules.proofs.Demand3.Facts.{effect_judged, time_judged}

-- running a trace and then another is running both
module _ (t : Table) where
  pub end_append : (m : Marking) (xs ys : List Step) → end_of t m (xs ++ ys) ≡ end_of t (end_of t m xs) ys
  unfolding end_of
  end_append m [] ys = refl
  end_append m (s ∷ xs) ys = end_append (stepped t m s) xs ys

  pub answers_append : (m : Marking) (xs ys : List Step) → answers_of t m (xs ++ ys) ≡ answers_of t m xs ++ answers_of t (end_of t m xs) ys
  unfolding end_of answers_of
  answers_append m [] ys = refl
  answers_append m (s ∷ xs) ys = ap {B = List ℕ} (λ l. step_number t m s ∷ l) (answers_append (stepped t m s) xs ys)

  -- one answer for each step
  pub answers_length : (m : Marking) (xs : List Step) → length (answers_of t m xs) ≡ length xs
  unfolding answers_of
  answers_length m [] = refl
  answers_length m (s ∷ xs) = ap suc (answers_length (stepped t m s) xs)

  -- a refused step leaves the marking, and so does a trace of refused steps
  pub stepped_refused : (m : Marking) (s : Step) → (step_number t m s ≡ 0 → ⊥) → stepped t m s ≡ m
  unfolding stepped
  stepped_refused m s h = go (eqb (step_number t m s) 0) refl
    where
      go : (b : Bool) → eqb (step_number t m s) 0 ≡ b → cond b (step_done t m s) m ≡ m
      go true e = absurd (h (eqb-true (step_number t m s) 0 e))
      go false e = refl

  -- each step is refused in the marking at the start
  pub data Refused (m : Marking) : List Step → Type 0 where
    no_step : Refused m []
    one_more : {s : Step} {xs : List Step} → (step_number t m s ≡ 0 → ⊥) → Refused m xs → Refused m (s ∷ xs)

  pub end_refused : (m : Marking) (xs : List Step) → Refused m xs → end_of t m xs ≡ m
  unfolding end_of
  end_refused m [] no_step = refl
  end_refused m (s ∷ xs) (one_more h r) = ap (λ (k : Marking). end_of t k xs) (stepped_refused m s h) ∙ end_refused m xs r

  -- judged values stay judged
  taken_judged : (m : Marking) (e : ℕ) → judged t m ≡ 0 → judged t (taken t m e) ≡ 0
  unfolding taken
  taken_judged m e h = go (goes_ahead t m e)
    where
      go : (b : Bool) → judged t (cond b (effect t m e) m) ≡ 0
      go true = effect_judged t m e h
      go false = h

  taken_all_judged : (m : Marking) (es : List ℕ) → judged t m ≡ 0 → judged t (taken_all t m es) ≡ 0
  unfolding taken_all
  taken_all_judged m [] h = h
  taken_all_judged m (e ∷ es) h = taken_all_judged (taken t m e) es (taken_judged m e h)

  pub guarded_judged : (m : Marking) → judged t m ≡ 0 → judged t (guarded t m) ≡ 0
  unfolding guarded
  guarded_judged m h = time_judged t (taken_all t m (order t m)) (taken_all_judged m (order t m) h)

  pub stepped_judged : (m : Marking) (s : Step) → judged t m ≡ 0 → judged t (stepped t m s) ≡ 0
  unfolding stepped step_done
  stepped_judged m s h = go (eqb (step_number t m s) 0) (leb s.kind last_happen_kind) (eqb s.kind plain_tick_kind)
    where
      go : (a b c : Bool) → judged t (cond a (cond b (effect t m s.event) (cond c (time m) (guarded t m))) m) ≡ 0
      go true true c = effect_judged t m s.event h
      go true false true = time_judged t m h
      go true false false = guarded_judged m h
      go false b c = h

pub end_judged : (t : Table) (m : Marking) (xs : List Step) → judged t m ≡ 0 → judged t (end_of t m xs) ≡ 0
unfolding end_of
end_judged t m [] h = h
end_judged t m (s ∷ xs) h = end_judged t (stepped t m s) xs (stepped_judged t m s h)

-- What one step answers, by its kind
module _ (t : Table) (m : Marking) (event : ℕ) where
  pub turned_happen : (kind : ℕ) → kind ≤ last_happen_kind
      → record { number = happen_number t m event; marking = done (happen_number t m event) (effect t m event) m } ≡ turned t m kind event
  unfolding turned stepped step_number step_done
  turned_happen zero few = refl
  turned_happen (suc zero) few = refl
  turned_happen (suc (suc kind)) few = absurd (omega arith)

  -- a tick has event 0
  pub turned_tick : event ≡ 0 → record { number = plain_tick_number m; marking = done (plain_tick_number m) (time m) m } ≡ turned t m plain_tick_kind event
  unfolding turned stepped step_number step_done
  turned_tick h = rw h

  pub turned_guarded : event ≡ 0 → record { number = check_number (verdict t m); marking = done (check_number (verdict t m)) (guarded t m) m }
      ≡ turned t m guarded_tick_kind event
  unfolding turned stepped step_number step_done
  turned_guarded h = rw h

  pub turned_wrong : (kind : ℕ) → wrong_step kind event ≡ true → record { number = 15; marking = m } ≡ turned t m kind event
  unfolding turned stepped step_number
  turned_wrong kind h = rw h

-- a tick's kind with an event, and one that is none of the four
pub wrong_event : (kind event : ℕ) → last_happen_kind < kind → (event ≡ 0 → ⊥) → wrong_step kind event ≡ true
wrong_event kind event more e = or_right (ltb guarded_tick_kind kind) _ (join (le-leb plain_tick_kind kind (omega arith)) (ap not (ne_eqb event 0 e)))

pub wrong_kind : (kind event : ℕ) → guarded_tick_kind < kind → wrong_step kind event ≡ true
wrong_kind kind event more = or_left (ltb guarded_tick_kind kind) _ (lt-ltb guarded_tick_kind kind more)

-- Bytes as steps
abbrev pub no_step_lem : Step
no_step_lem = record { kind = 0; event = 0 }

abbrev pub step_at : List ℕ → ℕ → Step
step_at bytes i = record { kind = get_or bytes (2 * i) 0; event = get_or bytes (2 * i + 1) 0 }

pub steps_length : (bytes : List ℕ) → length (steps_in bytes) ≡ length bytes / 2
unfolding steps_in
steps_length bytes = length_places (step_at bytes) (length bytes / 2)

pub steps_at : (bytes : List ℕ) (i : ℕ) → i < length bytes / 2 → get_or (steps_in bytes) i no_step_lem ≡ step_at bytes i
unfolding steps_in
steps_at bytes i b = places_at (step_at bytes) (length bytes / 2) i no_step_lem b

-- A loop over the steps. After i of them: the marking, and the buffer with an answer for each of them before what it held
module _ (t : Table) (m : Marking) (steps : List Step) (buffer : List ℕ) where
  pub record After (i : ℕ) (now : Marking) (held : List ℕ) : Type 0 where
    pub marking_is : now ≡ end_of t m (take i steps)
    pub buffer_is : held ≡ answers_of t m (take i steps) ++ drop i buffer
    pub same_room : length held ≡ length buffer

  pub after_none : After 0 m buffer
  unfolding end_of answers_of
  after_none = record { marking_is = refl; buffer_is = refl; same_room = refl }

  module _ (i : ℕ) (now : Marking) (held : List ℕ) (f : After i now held) (more : i < length steps) (room : i < length buffer) where
    abbrev s : Step
    s = get_or steps i no_step_lem

    one : take (i + 1) steps ≡ take i steps ++ (s ∷ [])
    one = rw add-one (take-suc steps i no_step_lem more)

    marks : stepped t now s ≡ end_of t m (take (i + 1) steps)
    unfolding end_of
    marks = sym (rw (one, end_append, ← f.marking_is))

    writes : set held i (step_number t now s) ≡ answers_of t m (take (i + 1) steps) ++ drop (i + 1) buffer
    unfolding answers_of
    writes =
        let before = answers_of t m (take i steps) in
        let sized : length before ≡ i = answers_length t m (take i steps) ∙ length-take-le i steps (omega arith) in
        ap {B = List ℕ} (λ l. set l i (step_number t now s)) (f.buffer_is ∙ ap {B = List ℕ} (λ l. before ++ l) (drop-cons buffer i 0 room))
        ∙ set_at before (get_or buffer i 0) (drop (suc i) buffer) (step_number t now s) i sized
        ∙ sym (append_snoc before (step_number t now s) (drop (suc i) buffer))
        ∙ ap {B = List ℕ} (λ l. l ++ drop (suc i) buffer)
        (sym (ap (answers_of t m) one ∙ answers_append t m (take i steps) (s ∷ [])
        ∙ ap (λ (k : Marking). before ++ (step_number t k s ∷ [])) (sym f.marking_is)))
        ∙ ap {B = List ℕ} (λ k. answers_of t m (take (i + 1) steps) ++ drop k buffer) (sym (add-one i))

    -- one more, where the step answered r
    pub after_more : (r : MarkingAnswer) → r ≡ turned t now s.kind s.event → After (i + 1) r.marking (set held i r.number)
    unfolding turned
    after_more r e = subst (λ (k : MarkingAnswer). After (i + 1) k.marking (set held i k.number)) (sym e) record {
      marking_is = marks;
      buffer_is = writes;
      same_room = length-set held i (step_number t now s) ∙ f.same_room;
    }

  -- all of them
  pub after_all : (i : ℕ) (now : Marking) (held : List ℕ) → After i now held → i ≡ length steps
      → (now ≡ end_of t m steps) × (held ≡ answers_of t m steps ++ drop (length steps) buffer)
  after_all i now held f e =
      let whole : take i steps ≡ steps = take_all i steps (omega arith) in (
        f.marking_is ∙ ap (end_of t m) whole,
        f.buffer_is ∙ ap {B = List ℕ} (λ l. answers_of t m l ++ drop i buffer) whole ∙ ap {B = List ℕ} (λ k. answers_of t m steps ++ drop k buffer) e,
      )

-- the same over bytes
module _ (t : Table) (m : Marking) (bytes buffer : List ℕ) (i : ℕ) (now : Marking) (held : List ℕ) (f : After t m (steps_in bytes) buffer i now held) where
  pub after_all_bytes : i ≡ length bytes / 2 → (now ≡ end_of t m (steps_in bytes)) × (held ≡ answers_of t m (steps_in bytes) ++ drop (length bytes / 2) buffer)
  after_all_bytes e =
      let all = after_all t m (steps_in bytes) buffer i now held f (e ∙ sym (steps_length bytes)) in
      (all.0, all.1 ∙ ap {B = List ℕ} (λ k. answers_of t m (steps_in bytes) ++ drop k buffer) (steps_length bytes))

-- A trace that is granted has room in the buffer, and is not too long
pub trace_granted : (steps room : ℕ) → trace_number steps room ≡ 0 → (steps ≤ room) × (steps ≤ most_steps)
unfolding trace_number
trace_granted steps room h =
    let long = ltb most_steps steps in
    let tight = ltb room steps in
    let p = neither long tight (if_done 13 (long || tight) h) in
    (ltb-false room steps p.1, ltb-false most_steps steps p.0)

pub bytes_granted : (t : Table) (m : Marking) (bytes : List ℕ) (room : ℕ) → bytes_number t m bytes room ≡ 0
    → (judged t m ≡ 0) × ((length bytes / 2 ≤ room) × (length bytes / 2 ≤ most_steps))
bytes_granted t m bytes room h =
    let p = both_done (judged t m) _ h in
    let q = both_done (1 if eqb (length bytes % 2) 1) _ p.1 in
    (p.0, trace_granted (length bytes / 2) room q.1)

-- The whole trace, in bytes: granted, or refused
module _ (t : Table) (m : Marking) (bytes buffer : List ℕ) where
  pub bytes_done : bytes_number t m bytes (length buffer) ≡ 0
      → (record { number = 0; marking = end_of t m (steps_in bytes) } ≡ run_bytes t m bytes (length buffer))
      × (answers_of t m (steps_in bytes) ++ drop (length bytes / 2) buffer ≡ run_bytes_answers t m bytes buffer)
  unfolding run_bytes run_bytes_answers
  bytes_done h = (rw h, rw h)

  pub bytes_refused : {n : ℕ} → n ≡ bytes_number t m bytes (length buffer) → (n ≡ 0 → ⊥)
      → (record { number = n; marking = m } ≡ run_bytes t m bytes (length buffer)) × (buffer ≡ run_bytes_answers t m bytes buffer)
  unfolding run_bytes run_bytes_answers
  bytes_refused e h = (rw (← e, ne_eqb _ 0 h), rw (← e, ne_eqb _ 0 h))

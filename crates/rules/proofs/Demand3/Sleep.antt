-- Minutes slept through, where the check accepts: they are single guarded ticks, none of which is refused, and one call after another is one call.
-- Assumes nothing.
use Rattle.std.specs.Prelude.{◌≡◌, Bool, true, false, cond, eqb, ltb, take, drop, get_or}
use Rattle.std.proofs.Math.Path.{refl, ap, ap₂, sym, subst}
use Rattle.std.proofs.Common.{◌∙◌, ⊎_elim, eq-or-lt_of_le, add-one, length-append, take_at, eqb-true, eq-eqb, ne_eqb, ltb-true, ltb-false, lt-ltb, le-ltb}
use mathlib.Core.List.{List, [], ◌∷◌, ◌++◌, map, map-append, append-nil}
use Prim.Native.Nat.{ℕ, zero, suc, ◌<◌, ◌≤◌, ◌+◌, ◌*◌, ◌/◌, ◌%◌}
use native.Mathlib.Omega.{arith}
use Rattle.std.proofs.Math.ListN.{length}
use Rattle.std.proofs.lemmas.List.{length-map, replicate-append-replicate}
use Rattle.std.proofs.Math.Seq.{split_at}
use Rattle.std.proofs.lemmas.Bool.{eqb-false}
use Rattle.rules.specs.declared.Table.{Table}
use Rattle.rules.specs.declared.Marking.{Marking}
use Rattle.rules.specs.CheckAnswer.{Accepts, Rejects}
use Rattle.rules.specs.Answers.{GuardedAnswer, SleptAnswer}
use Rattle.rules.specs.Counting.{repeated}
use Rattle.rules.specs.Numbers.{done}
use Rattle.rules.specs.Holds.{most_events}
use Rattle.rules.specs.Check.{check}
use Rattle.rules.specs.Guard.{caused, guarded, guarded_tick}
use Rattle.rules.specs.Sleep.{most_ticks, slept, Entry, entry, slept_caused, sleep_number, sleep_answer, place_of, places_of, sleep_list, moved}
use Rattle.rules.specs.Trace.{guarded_tick_kind, step_number, step_done, stepped, end_of}
use Rattle.rules.specs.History.{Act, then_pass, acts_of, history_of}
use Rattle.rules.specs.Calls.{step, guarded_ticks, listed, events_at, ticks_told, Singly, come_to, listed_in}
use Rattle.rules.proofs.Laws.Counting.{repeated_keeps, map_at, EachPlace, each_joined}
use Rattle.rules.proofs.Laws.Numbers.{done_alike}
use Rattle.rules.proofs.Laws.Taken.{tick_listed}
use Rattle.rules.proofs.Laws.Sleep.{Granted, early_grants, checked, granted, grants, slept_adds, caused_adds, caused_few}
use Rattle.rules.proofs.Laws.Judge.{good}
use Rattle.rules.proofs.Demand3.Accepts.{check_parts, check_accepts, check_rejects}
use Rattle.rules.proofs.Demand3.Leading.{history_append}
use Rattle.rules.proofs.Demand3.Keeping.{promised}
use Rattle.rules.proofs.Demand3.Statements.{still_accepts}

module _ (t : Table) where
  abbrev Accepted : Marking → Type 0
  Accepted m = check t m ≡ Accepts

  -- a guarded tick as a step, and as a call
  tick_step : (m : Marking) → Accepted m → stepped t m (step guarded_tick_kind 0) ≡ guarded t m
  unfolding stepped step_number step_done
  tick_step m accepted = rw (check_parts t m accepted).1

  pub tick_acts : (m : Marking) → Accepted m → acts_of t m (step guarded_tick_kind 0) ≡ then_pass (caused t m)
  unfolding acts_of step_number
  tick_acts m accepted = rw (check_parts t m accepted).1

  record Passes (m : Marking) (answer : GuardedAnswer) : Type 0 where
    not_refused : answer.number ≡ 0
    passed : answer.marking ≡ guarded t m
    lists : listed answer ≡ caused t m

  tick_call : (m : Marking) → Accepted m → Passes m (guarded_tick t m)
  unfolding guarded_tick
  tick_call m accepted = record { not_refused = rw accepted; passed = rw accepted; lists = tick_listed t m ∙ rw accepted }

  -- after each of them the check still accepts
  pub sleep_accepts : (m : Marking) → Accepted m → (n : ℕ) → Accepted (slept t m n)
  unfolding slept end_of
  sleep_accepts m accepted n =
      repeated_keeps (guarded t) Accepted
      (λ k a. subst Accepted (tick_step k a) (still_accepts t k a (step guarded_tick_kind 0 ∷ []))) n m accepted

  -- as a trace
  pub end_slept : (m : Marking) → Accepted m → (n : ℕ) → end_of t m (guarded_ticks n) ≡ slept t m n
  unfolding end_of slept repeated
  end_slept m accepted zero = refl
  end_slept m accepted (suc n) =
      let one : 1 + n ≡ suc n = omega arith in
      ap (λ (k : Marking). end_of t k (guarded_ticks n)) (tick_step m accepted)
      ∙ end_slept (guarded t m) (sleep_accepts m accepted 1) n
      ∙ sym (slept_adds t m 1 n)
      ∙ ap (slept t m) one

  -- so each tick of a sleep is a guarded tick that is not refused
  single : (m : Marking) → Accepted m → (i : ℕ) → Passes (slept t m i) (guarded_tick t (slept t m i))
  single m accepted i = tick_call (slept t m i) (sleep_accepts m accepted i)

  module _ (m : Marking) (accepted : Accepted m) (answers : ℕ → GuardedAnswer) (ticks : ℕ) (singly : Singly t m ticks answers) where
    at : (i : ℕ) → i < ticks → come_to m answers i ≡ slept t m i → Passes (slept t m i) (answers i)
    at i b e = subst (Passes (slept t m i)) (sym (singly i b ∙ ap (guarded_tick t) e)) (single m accepted i)

    come : (n : ℕ) → n ≤ ticks → come_to m answers n ≡ slept t m n
    unfolding slept repeated
    come zero b = refl
    come (suc i) b = (at i (omega (arith, b)) (come i (omega (arith, b)))).passed

    -- The (i + 1)th single guarded tick is not refused, and has the marking and the list of that tick of the sleep
    pub each_tick : (i : ℕ) → i < ticks
        → ((answers i).number ≡ 0) × ((answers i).marking ≡ slept t m (suc i)) × (listed (answers i) ≡ caused t (slept t m i))
    each_tick i b = let p = at i b (come i (omega (arith, b))) in (p.not_refused, come (suc i) (omega (arith, b)), p.lists)

    -- so the marking and the list are those of single guarded ticks
    pub all_ticks : (n : ℕ) → n ≤ ticks → (come_to m answers n ≡ slept t m n) × (listed_in answers n ≡ slept_caused t m n)
    unfolding listed_in slept_caused
    all_ticks zero b = (come 0 b, refl)
    all_ticks (suc n) b = (
      come (suc n) b,
      ap₂ (λ (l : List Entry) (k : List ℕ). l ++ map (entry (suc n)) k) (all_ticks n (omega (arith, b))).1 (each_tick n (omega (arith, b))).2,
    )

-- A place tells both its numbers, since there are no more events than a table has at most
pub place_told : (e : Entry) → e.event < 256 → (place_of e / 256 ≡ e.tick) × (place_of e % 256 ≡ e.event)
place_told e b = (omega (arith, b), omega (arith, b))

-- what places tell of a tick: one list behind the other, and the events of one tick
events_joined : (k : ℕ) (a b : List ℕ) → events_at k (a ++ b) ≡ events_at k a ++ events_at k b
unfolding events_at
events_joined k [] b = refl
events_joined k (p ∷ a) b = go (eqb (p / 256) k) (events_joined k a b)
  where
    go : (own : Bool) → events_at k (a ++ b) ≡ events_at k a ++ events_at k b
        → cond own (p % 256 ∷ events_at k (a ++ b)) (events_at k (a ++ b)) ≡ cond own (p % 256 ∷ events_at k a) (events_at k a) ++ events_at k b
    go true e = ap (λ (l : List ℕ). p % 256 ∷ l) e
    go false e = e

events_own : (k n : ℕ) (events : List ℕ) → EachPlace 0 (λ e. e < 256) events → events_at k (places_of (map (entry n) events)) ≡ cond (eqb n k) events []
unfolding events_at
events_own k n [] small = go (eqb n k)
  where
    go : (own : Bool) → [] ≡ cond {A = List ℕ} own [] []
    go true = refl
    go false = refl
events_own k n (e ∷ events) small =
    let told = place_told (entry n e) (small 0 (omega arith)) in
    rw (told.0, told.1, events_own k n events (λ i b. small (suc i) (omega (arith, b)))) (go (eqb n k))
  where
    go : (own : Bool) → cond own (e ∷ cond own events []) (cond own events []) ≡ cond own (e ∷ events) []
    go true = refl
    go false = refl

module _ (t : Table) (m : Marking) (accepted : check t m ≡ Accepts) where
  -- the events that a tick of a sleep causes exist
  pub events_exist : (n : ℕ) → EachPlace 0 (λ e. e < t.events) (caused t (slept t m n))
  events_exist n i b =
      let events = caused t (slept t m n) in
      let p = promised t (slept t m n) (sleep_accepts t m accepted n) in
      (p.each (take i events) (drop (suc i) events) (get_or events i 0) (split_at events i 0 b)).0

  -- each entry of a sleep's list has the number of a tick, and an event that exists
  pub entries_told : (n : ℕ) → EachPlace (entry 0 0) (λ e. (1 ≤ e.tick) × (e.tick ≤ n) × (e.event < t.events)) (slept_caused t m n)
  unfolding slept_caused
  entries_told zero = λ i b. absurd (omega (arith, b))
  entries_told (suc n) =
      each_joined (entry 0 0) Told (slept_caused t m n) (map (entry (suc n)) events)
      (λ i b. let p = entries_told n i b in (p.0, omega (arith, p.1), p.2))
      (λ i b. let here : i < length events = rw (length-map events (entry (suc n))) at b in
      subst Told (sym (map_at (entry (suc n)) events i 0 (entry 0 0) here)) (omega arith, omega arith, events_exist n i here))
    where
      Told : Entry → Type 0
      Told e = (1 ≤ e.tick) × (e.tick ≤ suc n) × (e.event < t.events)

      events : List ℕ
      events = caused t (slept t m n)

  -- What a sleep's list tells of a tick is what that tick causes, and of a later one nothing
  pub events_told : (k n : ℕ) → events_at (suc k) (places_of (slept_caused t m n)) ≡ cond (ltb k n) (caused t (slept t m k)) []
  unfolding slept_caused events_at
  events_told k zero = rw (le-ltb k 0 (omega arith))
  events_told k (suc n) =
      ap (events_at (suc k)) (map-append place_of (slept_caused t m n) (map (entry (suc n)) (caused t (slept t m n))))
      ∙ events_joined (suc k) (places_of (slept_caused t m n)) _
      ∙ ap₂ (λ (before here : List ℕ). before ++ here) (events_told k n)
      (events_own (suc k) (suc n) (caused t (slept t m n)) (λ i b. omega (arith, few, events_exist n i b)))
      ∙ go (ltb k n) (eqb n k) refl refl
    where
      few : t.events ≤ 64
      few = (good t m (check_parts t m accepted).0).table_good.few_events

      here : List ℕ
      here = caused t (slept t m n)

      go : (less own : Bool) → ltb k n ≡ less → eqb n k ≡ own
          → cond (ltb k n) (caused t (slept t m k)) [] ++ cond (eqb (suc n) (suc k)) here [] ≡ cond (ltb k (suc n)) (caused t (slept t m k)) []
      go true own l o =
          let b = ltb-true k n l in
          rw (l, ne_eqb (suc n) (suc k) (λ e. omega (arith, e, b)), lt-ltb k (suc n) (omega (arith, b))) (append-nil (caused t (slept t m k)))
      go false true l o =
          let e = eqb-true n k o in
          rw (l, e, eq-eqb (suc k) (suc k) refl, lt-ltb k (suc k) (omega arith)) refl
      go false false l o =
          let other = eqb-false n k o in
          rw (l, ne_eqb (suc n) (suc k) (λ e. other (omega (arith, e))), le-ltb k (suc n) (⊎_elim (λ (e : n ≡ k). absurd (other e)) (λ (b : n < k). omega (arith, b)) (eq-or-lt_of_le (ltb-false k n l)))) refl

  -- so the list tells the history of as many guarded ticks
  pub history_told : (n ticks : ℕ) → n ≤ ticks → ticks_told n (places_of (slept_caused t m ticks)) ≡ history_of t m (guarded_ticks n)
  unfolding ticks_told history_of
  history_told zero ticks b = refl
  history_told (suc n) ticks b =
      let s = step guarded_tick_kind 0 in
      ap₂ (λ (before here : List Act). before ++ here) (history_told n ticks (omega (arith, b)))
      (ap then_pass (events_told n ticks ∙ rw (lt-ltb n ticks (omega (arith, b))))
      ∙ sym (tick_acts t (slept t m n) (sleep_accepts t m accepted n)))
      ∙ ap (λ (k : Marking). history_of t m (guarded_ticks n) ++ acts_of t k s) (sym (end_slept t m accepted n))
      ∙ ap (λ (l : List Act). history_of t m (guarded_ticks n) ++ l) (sym (append-nil _))
      ∙ sym (history_append t m (guarded_ticks n) (s ∷ []))
      ∙ ap (history_of t m) (replicate-append-replicate n 1 s ∙ ap guarded_ticks (add-one n))

-- what an answer that is granted says
module _ (t : Table) (m : Marking) (ticks : ℕ) (list : List ℕ) (answer : SleptAnswer) (is : answer ≡ sleep_answer t m ticks (length list))
    (granted-so : answer.number ≡ 0)
  where
    number_done : sleep_number t m ticks (length list) ≡ 0
    unfolding sleep_answer
    number_done = sym (ap (λ (a : SleptAnswer). a.number) is) ∙ granted-so

    told : Granted t m ticks (length list)
    told = granted t m ticks (length list) number_done

    accepted_so : check t m ≡ Accepts
    accepted_so = check_accepts t m told.judged_done told.accepts

    pub marked : answer.marking ≡ slept t m ticks
    unfolding sleep_answer
    marked = ap (λ (a : SleptAnswer). a.marking) is ∙ rw number_done

    counted : answer.count ≡ length (slept_caused t m ticks)
    unfolding sleep_answer
    counted = ap (λ (a : SleptAnswer). a.count) is ∙ rw number_done

    listed_so : sleep_list t m ticks list ≡ places_of (slept_caused t m ticks) ++ drop (length (slept_caused t m ticks)) list
    unfolding sleep_list
    listed_so = rw number_done

    -- its first places
    first_places : take answer.count (sleep_list t m ticks list) ≡ places_of (slept_caused t m ticks)
    first_places =
        ap (take answer.count) listed_so
        ∙ take_at (places_of (slept_caused t m ticks)) (drop (length (slept_caused t m ticks)) list) answer.count
        (length-map (slept_caused t m ticks) place_of ∙ sym counted)

    -- For a caller: the marking, and the list of caused events with the number of the tick before which each was caused, are those of single
    -- guarded ticks, none of which is refused
    pub sleep_singly : (answers : ℕ → GuardedAnswer) → Singly t m ticks answers
        → (answer.marking ≡ come_to m answers ticks) × (answer.count ≡ length (listed_in answers ticks))
        × (take answer.count (sleep_list t m ticks list) ≡ places_of (listed_in answers ticks)) × ((i : ℕ) → i < ticks → (answers i).number ≡ 0)
    sleep_singly answers singly =
        let all = all_ticks t m accepted_so answers ticks singly ticks (omega arith) in (
          marked ∙ sym all.0,
          counted ∙ ap (λ (l : List Entry). length l) (sym all.1),
          first_places ∙ ap places_of (sym all.1),
          λ i b. (each_tick t m accepted_so answers ticks singly i b).0,
        )

    -- and what the list tells is the history of as many guarded ticks
    pub told_history : ticks_told ticks (take answer.count (sleep_list t m ticks list)) ≡ history_of t m (guarded_ticks ticks)
    told_history = ap (ticks_told ticks) first_places ∙ history_told t m accepted_so ticks ticks (omega arith)

-- what a sleep comes to, read off its list: as many guarded ticks where it is granted, else nothing
pub sleep_acts : (t : Table) (m : Marking) (ticks : ℕ) (lent left : List ℕ) (answer : SleptAnswer) → answer ≡ sleep_answer t m ticks (length lent)
    → left ≡ sleep_list t m ticks lent
    → done answer.number (ticks_told ticks (take answer.count left)) [] ≡ done answer.number (history_of t m (guarded_ticks ticks)) []
sleep_acts t m ticks lent left answer is fills =
    done_alike answer.number _ _ [] (λ z. ap (λ (l : List ℕ). ticks_told ticks (take answer.count l)) fills ∙ told_history t m ticks lent answer is z)

-- Where the check accepts, no more ticks than the limit are granted to who lends a place for each event that there can be at each of them
pub sleep_granted : (t : Table) (m : Marking) → check t m ≡ Accepts → (ticks room : ℕ) → ticks ≤ most_ticks → most_events * ticks ≤ room
    → (sleep_answer t m ticks room).number ≡ 0
unfolding sleep_answer
sleep_granted t m accepted ticks room few fits =
    let p = check_parts t m accepted in
    grants t m ticks room
    (record {
      judged_done = p.0;
      few = few;
      accepts = p.1;
      fits = omega (arith, fits, caused_few t (good t m p.0).table_good m ticks);
    })

-- Where it rejects, sleeping is refused with 12, and says why, however many ticks and places there are within the limit
pub sleep_rejected : (t : Table) (m : Marking) (why at : ℕ) → check t m ≡ Rejects why at → (ticks room : ℕ) → ticks ≤ most_ticks
    → let answer = sleep_answer t m ticks room in
    (answer.number ≡ 12) × (answer.reason ≡ why) × (answer.place ≡ at) × (answer.count ≡ 0) × (answer.marking ≡ m)
unfolding sleep_answer sleep_number
sleep_rejected t m why at rejects ticks room few =
    let p = check_rejects t m why at rejects in
    let early = checked t m ticks (early_grants t m ticks p.0 few) in
    rw (early, p.1) (refl, refl, refl, refl, refl)

-- places with their tick numbers moved
abbrev pub moved_places : ℕ → List ℕ → List ℕ
moved_places ticks places = map (λ p. 256 * ticks + p) places

places_moved : (a : ℕ) (l : List Entry) → places_of (moved a l) ≡ moved_places a (places_of l)
places_moved a [] = refl
places_moved a (e ∷ l) =
    let here : 256 * (a + e.tick) + e.event ≡ 256 * a + (256 * e.tick + e.event) = omega arith in
    ap₂ (λ (p : ℕ) (rest : List ℕ). p ∷ rest) here (places_moved a l)

-- For a caller: sleeping a ticks and then b is sleeping a + b, with the second list's tick numbers moved by a, where a + b is within the limit and
-- no list is too short
module _ (t : Table) (m : Marking) (a b : ℕ) (first-list second-list list : List ℕ) (first second whole : SleptAnswer)
    (first-is : first ≡ sleep_answer t m a (length first-list)) (first_done : first.number ≡ 0)
    (second_is : second ≡ sleep_answer t first.marking b (length second-list)) (second-done : second.number ≡ 0)
    (few : a + b ≤ most_ticks) (room : first.count + second.count ≤ length list)
    (whole_is : whole ≡ sleep_answer t m (a + b) (length list))
  where
    early : first.marking ≡ slept t m a
    early = marked t m a first-list first first-is first_done

    entries : slept_caused t m (a + b) ≡ slept_caused t m a ++ moved a (slept_caused t first.marking b)
    entries = caused_adds t m a b ∙ ap (λ (n : Marking). slept_caused t m a ++ moved a (slept_caused t n b)) (sym early)

    sum : length (slept_caused t m (a + b)) ≡ first.count + second.count
    sum =
        ap (λ (l : List Entry). length l) entries
        ∙ length-append (slept_caused t m a) _
        ∙ ap₂ ◌+◌ (sym (counted t m a first-list first first-is first_done))
        (length-map (slept_caused t first.marking b) _ ∙ sym (counted t first.marking b second-list second second_is second-done))

    whole_done : whole.number ≡ 0
    unfolding sleep_answer
    whole_done =
        let g = told t m a first-list first first-is first_done in
        ap (λ (w : SleptAnswer). w.number) whole_is
        ∙ grants t m (a + b) (length list) (record { judged_done = g.judged_done; few = few; accepts = g.accepts; fits = omega (arith, sum, room) })

    pub sleep_adds : (whole.number ≡ 0) × (whole.marking ≡ second.marking) × (whole.count ≡ first.count + second.count)
        × (take whole.count (sleep_list t m (a + b) list)
        ≡ take first.count (sleep_list t m a first-list) ++ moved_places a (take second.count (sleep_list t first.marking b second-list)))
    sleep_adds = (
      whole_done,
      marked t m (a + b) list whole whole_is whole_done
          ∙ slept_adds t m a b
          ∙ ap (λ (n : Marking). slept t n b) (sym early)
          ∙ sym (marked t first.marking b second-list second second_is second-done),
      counted t m (a + b) list whole whole_is whole_done ∙ sum,
      first_places t m (a + b) list whole whole_is whole_done
          ∙ ap places_of entries
          ∙ map-append place_of (slept_caused t m a) (moved a (slept_caused t first.marking b))
          ∙ ap₂ (λ (before here : List ℕ). before ++ here) (sym (first_places t m a first-list first first-is first_done))
          (places_moved a (slept_caused t first.marking b)
          ∙ ap (moved_places a) (sym (first_places t first.marking b second-list second second_is second-done))),
    )

-- Where the check rejects, all three are refused with 12: so is the second, as the first leaves the marking
pub sleep_adds_rejected : (t : Table) (m : Marking) (why at : ℕ) → check t m ≡ Rejects why at → (a b : ℕ) → a + b ≤ most_ticks
    → (first-room second-room room : ℕ) (first second whole : SleptAnswer) → first ≡ sleep_answer t m a first-room
    → second ≡ sleep_answer t first.marking b second-room → whole ≡ sleep_answer t m (a + b) room
    → (first.number ≡ 12) × (second.number ≡ 12) × (whole.number ≡ 12)
sleep_adds_rejected t m why at rejects a b few first-room second-room room first second whole first-is second_is whole_is =
    let early = sleep_rejected t m why at rejects a first-room (omega (arith, few)) in
    let stays = ap (λ (s : SleptAnswer). s.marking) first-is ∙ early.4 in
    let then = sleep_rejected t first.marking why at (ap (check t) stays ∙ rejects) b second-room (omega (arith, few)) in (
      ap (λ (s : SleptAnswer). s.number) first-is ∙ early.0,
      ap (λ (s : SleptAnswer). s.number) second_is ∙ then.0,
      ap (λ (s : SleptAnswer). s.number) whole_is ∙ (sleep_rejected t m why at rejects (a + b) room few).0,
    )

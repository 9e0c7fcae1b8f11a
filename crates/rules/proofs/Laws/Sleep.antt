-- Minutes slept through: sleeping and then sleeping again is sleeping the sum, and a run of ticks before which nothing falls due is time that
-- passes, and nothing else. No check is asked: what holds where it accepts is in Demand3/Sleep. Assumes nothing.
use Rattle.std.specs.Prelude.{◌≡◌, refl, true, false, ◌&&◌, eqb, ltb, length}
use Rattle.std.proofs.Common.{◌∙◌, add-zero, add-suc, arith, length-append}
use Rattle.std.proofs.Math.Path.{ap, ap₂, sym}
use mathlib.Core.List.{List, [], ◌∷◌, ◌++◌, map, append-nil, append_assoc, map-append}
use Prim.Native.Nat.{ℕ, zero, suc, ◌<◌, ◌≤◌, ◌+◌, ◌*◌}
use Rattle.std.proofs.lemmas.List.{length-map}
use borrow.Author.Tests.{eqb-true, ne_eqb, ltb-false, le-ltb}
use Rattle.rules.specs.declared.Table.{Table}
use Rattle.rules.specs.declared.Marking.{Marking}
use Rattle.rules.specs.CheckAnswer.{Refused, Accepts}
use Rattle.rules.specs.Counting.{repeated}
use Rattle.rules.specs.Numbers.{◌if◌, ◌else◌, check_number}
use Rattle.rules.specs.Holds.{most_events, record_of}
use Rattle.rules.specs.Judge.{judged}
use Rattle.rules.specs.Time.{is_due, any_due, time}
use Rattle.rules.specs.Check.{verdict}
use Rattle.rules.specs.Guard.{taken_all, executed_of, caused, guarded}
use Rattle.rules.specs.Sleep.{most_ticks, slept, Entry, entry, slept_caused, sleep_check, sleep_number, moved}
use Rattle.rules.specs.Shapes.Good.{GoodTable}
use Rattle.rules.proofs.Laws.Tests.{denied, both}
use Rattle.rules.proofs.Laws.Counting.{some_false, repeated_adds, repeated_keeps}
use Rattle.rules.proofs.Laws.Numbers.{if_done, both_done, by_number}
use Rattle.rules.proofs.Laws.Check.{verdict_done}
use Rattle.rules.proofs.Laws.Needed.{needed_none}
use Rattle.rules.proofs.Laws.Order.{order_empty}
use Rattle.rules.proofs.Laws.Taken.{caused_length}
use Rattle.rules.proofs.Demand3.Facts.{time_events, time_included, time_pending, time_bounded, time_deadline}

-- What a call that is granted was told; and where it was, it is granted
pub record Granted (t : Table) (m : Marking) (ticks room : ℕ) : Type 0 where
  pub judged_done : judged t m ≡ 0
  pub few : ticks ≤ most_ticks
  pub accepts : verdict t m ≡ Accepts
  pub fits : length (slept_caused t m ticks) ≤ room

-- the numbers that come before the check's
abbrev pub early_number : Table → Marking → ℕ → ℕ
early_number t m ticks = judged t m else 14 if ltb most_ticks ticks

module _ (t : Table) (m : Marking) (ticks : ℕ) where
  pub early_granted : early_number t m ticks ≡ 0 → (judged t m ≡ 0) × (ticks ≤ most_ticks)
  early_granted h = let p = both_done (judged t m) _ h in (p.0, ltb-false most_ticks ticks (if_done 13 (ltb most_ticks ticks) p.1))

  pub early_grants : judged t m ≡ 0 → ticks ≤ most_ticks → early_number t m ticks ≡ 0
  early_grants judged_done few = rw (judged_done, le-ltb most_ticks ticks few)

  -- what the check is asked, and where it is not
  pub checked : early_number t m ticks ≡ 0 → sleep_check t m ticks ≡ verdict t m
  unfolding sleep_check
  checked z = rw z

  pub unchecked : {number : ℕ} → number ≡ early_number t m ticks → (number ≡ 0 → ⊥) → sleep_check t m ticks ≡ Refused number
  unfolding sleep_check
  unchecked {number} e h = rw (← e, ne_eqb number 0 h)

  pub granted : (room : ℕ) → sleep_number t m ticks room ≡ 0 → Granted t m ticks room
  unfolding sleep_number sleep_check
  granted room h =
      let p = both_done (check_number (sleep_check t m ticks)) _ h in
      let early = by_number (early_number t m ticks) (λ z. z) (λ r. rw r at p.0) in
      let q = early_granted early in
      record {
        judged_done = q.0;
        few = q.1;
        accepts = verdict_done t m (rw early at p.0);
        fits = ltb-false room (length (slept_caused t m ticks)) (if_done 13 (ltb room (length (slept_caused t m ticks))) p.1);
      }

  pub grants : (room : ℕ) → Granted t m ticks room → sleep_number t m ticks room ≡ 0
  unfolding sleep_number
  grants room g =
      rw (checked (early_grants g.judged_done g.few), g.accepts, le-ltb room (length (slept_caused t m ticks)) g.fits)

-- the events of one tick, with their tick number moved
moved_tick : (a b : ℕ) (events : List ℕ) → moved a (map (entry b) events) ≡ map (entry (a + b)) events
moved_tick a b [] = refl
moved_tick a b (e ∷ events) = ap (λ (l : List Entry). entry (a + b) e ∷ l) (moved_tick a b events)

module _ (t : Table) (m : Marking) where
  pub slept_adds : (a b : ℕ) → slept t m (a + b) ≡ slept t (slept t m a) b
  unfolding slept
  slept_adds a b = repeated_adds (guarded t) m a b

  -- Sleeping a ticks and then b is sleeping a + b, with the second list's tick numbers moved by a
  pub caused_adds : (a b : ℕ) → slept_caused t m (a + b) ≡ slept_caused t m a ++ moved a (slept_caused t (slept t m a) b)
  unfolding slept_caused
  caused_adds a zero = ap (slept_caused t m) (add-zero a) ∙ sym (append-nil (slept_caused t m a))
  caused_adds a (suc b) =
      ap (slept_caused t m) (add-suc a b)
      ∙ ap₂ (λ (before here : List Entry). before ++ here) (caused_adds a b) last
      ∙ append_assoc (slept_caused t m a) (moved a first) (moved a (map (entry (suc b)) (caused t (slept t (slept t m a) b))))
      ∙ ap (λ (l : List Entry). slept_caused t m a ++ l) (sym (map-append _ first _))
    where
      first : List Entry
      first = slept_caused t (slept t m a) b

      last : map (entry (suc (a + b))) (caused t (slept t m (a + b))) ≡ moved a (map (entry (suc b)) (caused t (slept t (slept t m a) b)))
      last =
          ap₂ (λ (k : ℕ) (n : Marking). map (entry k) (caused t n)) (sym (add-suc a b)) (slept_adds a b)
          ∙ sym (moved_tick a (suc b) (caused t (slept t (slept t m a) b)))

-- no more events are caused at a tick than there are
pub caused_few : (t : Table) → GoodTable t → (m : Marking) (n : ℕ) → length (slept_caused t m n) ≤ most_events * n
unfolding slept_caused
caused_few t good m zero = omega arith
caused_few t good m (suc n) =
    omega (
      arith,
      length-append (slept_caused t m n) (map (entry (suc n)) (caused t (slept t m n))),
      length-map (caused t (slept t m n)) (entry (suc n)),
      caused_length t (slept t m n),
      good.few_events,
      caused_few t good m n,
    )

-- a guarded tick before which nothing is due
pub quiet_tick : (t : Table) → GoodTable t → (m : Marking) → m.events ≡ t.events → any_due m ≡ false → (guarded t m ≡ time m) × (caused t m ≡ [])
unfolding guarded caused taken_all executed_of
quiet_tick t good m same quiet = rw (needed_none t good m same quiet, order_empty t t.events) (refl, refl)

module _ (t : Table) (good : GoodTable t) (m : Marking) (same : m.events ≡ t.events) where
  passed_events : (i : ℕ) → (repeated i time m).events ≡ t.events
  passed_events i = repeated_keeps time (λ (n : Marking). n.events ≡ t.events) (λ n e. time_events n ∙ e) i m same

  -- A run of them is passed in one go
  pub quiet_run : (n : ℕ) → ((i : ℕ) → i < n → any_due (repeated i time m) ≡ false) → (slept t m n ≡ repeated n time m) × (slept_caused t m n ≡ [])
  unfolding slept repeated slept_caused
  quiet_run zero quiet = (refl, refl)
  quiet_run (suc n) quiet =
      let before = quiet_run n (λ i b. quiet i (omega (arith, b))) in
      let here = quiet_tick t good (repeated n time m) (passed_events n) (quiet n (omega arith)) in (
        ap (guarded t) before.0 ∙ here.0,
        ap₂ (λ (l : List Entry) (k : List ℕ). l ++ map (entry (suc n)) k) before.1 (ap (caused t) before.0 ∙ here.1),
      )

-- an event that is included, pending and bounded has so many ticks left, or more
abbrev pub Left : Marking → ℕ → Type 0
Left m d =
    (x : ℕ) → x < m.events → (record_of m x).included ≡ true → (record_of m x).pending ≡ true → (record_of m x).bounded ≡ true
    → d ≤ (record_of m x).deadline

left_later : (m : Marking) (d : ℕ) → Left m (suc d) → Left (time m) d
left_later m d left x b i p q =
    let h = rw time_events at b in
    let bounded = sym (time_bounded m x h) ∙ q in
    let own = left x h (sym (time_included m x h) ∙ i) (sym (time_pending m x h) ∙ p) bounded in
    omega (arith, own, time_deadline m x h bounded)

left_quiet : (m : Marking) (d : ℕ) → Left m (suc d) → any_due m ≡ false
unfolding any_due is_due
left_quiet m d left =
    some_false _ m.events (λ x b.
    denied _ (λ due.
    let r = record_of m x in
    let p = both r.included (r.pending && (r.bounded && eqb r.deadline 0)) due in
    let q = both r.pending (r.bounded && eqb r.deadline 0) p.1 in
    let z = both r.bounded (eqb r.deadline 0) q.1 in
    omega (arith, left x b p.0 q.0 z.0, eqb-true r.deadline 0 z.1)))

-- nothing is due for as long as every included event under a deadline has ticks left; an excluded one does not matter
pub quiet_while : (d : ℕ) (m : Marking) → Left m d → (i : ℕ) → i < d → any_due (repeated i time m) ≡ false
unfolding repeated
quiet_while zero m left i b = absurd (omega (arith, b))
quiet_while (suc d) m left zero b = left_quiet m d left
quiet_while (suc d) m left (suc i) b =
    let one : suc i ≡ 1 + i = omega arith in
    ap (λ (k : ℕ). any_due (repeated k time m)) one
    ∙ ap any_due (repeated_adds time m 1 i)
    ∙ quiet_while d (time m) (left_later m d left) i (omega (arith, b))

-- The jump: n ticks within which no included event falls due are n passes of time, and cause nothing
pub jump : (t : Table) → GoodTable t → (m : Marking) → m.events ≡ t.events → (n : ℕ) → Left m n
    → (slept t m n ≡ repeated n time m) × (slept_caused t m n ≡ [])
jump t good m same n left = quiet_run t good m same n (quiet_while n m left)

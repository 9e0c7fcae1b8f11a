-- What an acting call puts back is read as the marking that the rule answers: reading what was written gives the marking back, with event places
-- past the count empty, and no execution and no pass of time fills those. Assumes nothing.
use Rattle.std.specs.Prelude.{◌≡◌, refl, Bool, true, false, cond, ℕ, zero, suc, ◌+◌, ◌*◌, ◌-◌, ◌<◌, ◌≤◌, eqb, ltb, length, get_or, replicate}
use Rattle.std.proofs.Common.{◌∙◌, subst, arith, length-append, ext_get_or, get_or-append-add, ltb-true, ltb-false, le-ltb}
use Rattle.std.proofs.Math.Path.{ap, sym}
use mathlib.Core.List.{List, [], ◌∷◌, ◌++◌, append-nil}
use Rattle.std.proofs.Math.ListN.{take, drop, take-append-drop, drop_of_length-le, get_or-append, get_or-eq_default}
use Rattle.std.proofs.lemmas.List.{length-replicate}
use Rattle.rules.specs.declared.Table.{Table}
use Rattle.rules.specs.declared.Record.{Record}
use Rattle.rules.specs.declared.Marking.{Marking}
use Rattle.rules.specs.Answers.{MarkingAnswer}
use Rattle.rules.specs.Counting.{places, each_below}
use Rattle.rules.specs.Numbers.{done}
use Rattle.rules.specs.Holds.{most_events, empty_record, record_of, with_records}
use Rattle.rules.specs.Judge.{judged}
use Rattle.rules.specs.Image.{record_bytes, marking_from, read_table, read_marking, marking_image, write_number, write_marking, record_at, record_bit}
use Rattle.rules.specs.Effect.{effect, effect_at}
use Rattle.rules.specs.Time.{later, time}
use Rattle.rules.specs.Remedy.{effects}
use Rattle.rules.specs.History.{Act, executes, passes, after}
use Rattle.rules.specs.Images.{table_of, marking_of, images_number, put_back}
use Rattle.rules.proofs.Laws.Counting.{length_places, places_at, length_each_below, each_below_kept}
use Rattle.rules.proofs.Laws.Numbers.{both_done}
use Rattle.rules.proofs.Laws.Judge.{good}
use Rattle.image.specs.Theorems.{written_is_read, later_stay}
use Rattle.duty.specs.Performing.{Fills}
use Rattle.duty.specs.Laws.Images.{read_judged}
use Rattle.duty.specs.Laws.Kept.{fills, filled}

-- room for every event, and the places past the events empty: as in every marking that is read
pub record AsRead (m : Marking) : Type 0 where
  pub full : length m.records ≡ most_events
  pub empty : (i : ℕ) → m.events ≤ i → record_of m i ≡ empty_record

still_empty : (n i : ℕ) → get_or (replicate n empty_record) i empty_record ≡ empty_record
still_empty zero i = refl
still_empty (suc n) zero = refl
still_empty (suc n) (suc i) = still_empty n i

module _ (events : ℕ) (f : ℕ → Record) (few : events ≤ most_events) where
  abbrev used : List Record
  used = places events f

  abbrev unused : List Record
  unused = replicate (most_events - events) empty_record

  from_as_read : AsRead (marking_from events f)
  from_as_read = record {
    full = length-append used unused ∙ omega (arith, length_places f events, length-replicate (most_events - events) empty_record, few);
    empty = λ i b.
        let at : i ≡ length used + (i - length used) = omega (arith, length_places f events, b) in
        ap (λ (k : ℕ). get_or (used ++ unused) k empty_record) at
        ∙ get_or-append-add used unused (i - length used) empty_record
        ∙ still_empty (most_events - events) (i - length used);
  }

  from_at : (i : ℕ) → i < events → record_of (marking_from events f) i ≡ f i
  from_at i b = get_or-append used unused empty_record i (rw (length_places f events) b) ∙ places_at f events i empty_record b

-- such a marking is its own first records
again : (m : Marking) → AsRead m → m.events ≤ most_events → marking_from m.events (record_of m) ≡ m
again m a few =
    let from = from_as_read m.events (record_of m) few in
    ap (λ (l : List Record). record { records = l; events = m.events })
    (ext_get_or empty_record (marking_from m.events (record_of m)).records m.records (from.full ∙ sym a.full) (λ i b. at i (ltb i m.events) refl))
  where
    at : (i : ℕ) (used : Bool) → ltb i m.events ≡ used → record_of (marking_from m.events (record_of m)) i ≡ record_of m i
    at i true e = from_at m.events (record_of m) few i (ltb-true i m.events e)
    at i false e =
        let past : m.events ≤ i = ltb-false i m.events e in
        (from_as_read m.events (record_of m) few).empty i past ∙ sym (a.empty i past)

-- a change of the records below the count keeps it ..
changed_as_read : (m : Marking) (f : ℕ → Record → Record) → AsRead m → AsRead (with_records m (each_below m.events f m.records))
changed_as_read m f a = record {
  full = length_each_below m.events f m.records ∙ a.full;
  empty = λ i b. go i b (ltb i (length m.records)) refl;
}
  where
    go : (i : ℕ) → m.events ≤ i → (there : Bool) → ltb i (length m.records) ≡ there
        → get_or (each_below m.events f m.records) i empty_record ≡ empty_record
    go i b true e = each_below_kept m.events f m.records i empty_record (ltb-true i (length m.records) e) b ∙ a.empty i b
    go i b false e =
        get_or-eq_default (each_below m.events f m.records) empty_record
        (rw (length_each_below m.events f m.records) (ltb-false i (length m.records) e))

-- .. and so do an execution, a pass of time, and any history of them
pub effect_as_read : (t : Table) (m : Marking) (e : ℕ) → AsRead m → AsRead (effect t m e)
unfolding effect
effect_as_read t m e a = changed_as_read m (effect_at t e) a

pub time_as_read : (m : Marking) → AsRead m → AsRead (time m)
unfolding time
time_as_read m a = changed_as_read m (λ e. later) a

pub effects_as_read : (t : Table) (m : Marking) (events : List ℕ) → AsRead m → AsRead (effects t m events)
unfolding effects
effects_as_read t m [] a = a
effects_as_read t m (e ∷ rest) a = effects_as_read t (effect t m e) rest (effect_as_read t m e a)

pub after_as_read : (t : Table) (m : Marking) (acts : List Act) → AsRead m → AsRead (after t m acts)
unfolding after
after_as_read t m [] a = a
after_as_read t m (executes e ∷ rest) a = after_as_read t (effect t m e) rest (effect_as_read t m e a)
after_as_read t m (passes ∷ rest) a = after_as_read t (time m) rest (time_as_read m a)

write_done : (m : Marking) (buffer : List ℕ) → Fills m buffer → write_number m (length buffer) ≡ 0
unfolding write_number
write_done m buffer f = rw (f.judged_done, le-ltb (length buffer) (record_bytes * m.events) (omega (arith, f.exact)))

module _ (table marking : List ℕ) (read : images_number table marking ≡ 0) where
  abbrev t : Table
  t = table_of table

  parts : ((read_table table).number ≡ 0) × ((read_marking t.events marking).number ≡ 0)
  unfolding images_number
  parts = both_done (read_table table).number (read_marking t.events marking).number read

  pub as_read : AsRead (marking_of table marking)
  unfolding marking_of read_marking
  as_read =
      let few = (good t (marking_of table marking) (read_judged table marking read)).table_good.few_events in
      rw parts.1 (from_as_read t.events (λ e. record_at marking (record_bit e)) few)

  -- the image of a marking that is judged 'done' beside the table is read as that marking
  read_back : (n : Marking) → judged t n ≡ 0 → AsRead n → (images_number table (marking_image n) ≡ 0) × (marking_of table (marking_image n) ≡ n)
  unfolding images_number marking_of
  read_back n h a =
      let f = fills table marking n read h in
      let g = good t n h in
      let same : n.events ≡ t.events = g.marking_good.same_events in
      let size = record_bytes * n.events in
      let written = write_marking n marking in
      let none_left : drop size written ≡ [] = later_stay n marking ∙ drop_of_length-le marking {i = size} (omega (arith, f.exact)) in
      let whole : take size written ≡ marking_image n =
      sym (append-nil (take size written)) ∙ ap (λ (l : List ℕ). take size written ++ l) (sym none_left) ∙ take-append-drop size written ∙ filled n marking f in
      let back : read_marking t.events (marking_image n) ≡ record { number = 0; marking = n } =
      ap (λ (k : ℕ). read_marking k (marking_image n)) (sym same)
      ∙ ap (read_marking n.events) (sym whole)
      ∙ written_is_read n marking (write_done n marking f)
      ∙ ap (λ (k : Marking). record { number = 0; marking = k }) (again n a (omega (arith, same, g.table_good.few_events))) in
      (rw (parts.0, back), ap (λ (k : MarkingAnswer). k.marking) back)

  -- what is put back, done or refused, is read as what the rule answers
  pub put_back_lem : (number : ℕ) (acted : Marking) (put : List ℕ) → put ≡ put_back number (done number acted (marking_of table marking)) marking
      → judged t acted ≡ 0 → AsRead acted → (images_number table put ≡ 0) × (marking_of table put ≡ done number acted (marking_of table marking))
  put_back_lem number acted put e h a = go (eqb number 0) e
    where
      go : (b : Bool) → put ≡ cond b (marking_image (cond b acted (marking_of table marking))) marking
          → (images_number table put ≡ 0) × (marking_of table put ≡ cond b acted (marking_of table marking))
      go true p = subst (λ (l : List ℕ). (images_number table l ≡ 0) × (marking_of table l ≡ acted)) (sym p) (read_back acted h a)
      go false p = subst (λ (l : List ℕ). (images_number table l ≡ 0) × (marking_of table l ≡ marking_of table marking)) (sym p) (read, refl)

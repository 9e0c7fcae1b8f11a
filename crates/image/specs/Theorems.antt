-- Nothing enters that the judge does not accept, and nothing leaves that cannot be read back; what is carried over says what the old image said;
-- what is built from plain numbers is told back in them. Assumes nothing.
use Rattle.std.specs.Prelude.{◌≡◌, refl, Bool, not, cond, List, [], ◌∷◌, ◌++◌, ℕ, ◌+◌, ◌-◌, ◌*◌, ◌<◌, ◌≤◌, eqb, ltb, length, get_or, take, drop, replicate}
use Rattle.std.proofs.Common.{sym, ap, ap₂, ◌∙◌, zero-add, arith, ne_eqb, take_at}
use Rattle.std.proofs.lemmas.Bool.{not-false}
use Rattle.rules.specs.declared.Table.{Table}
use Rattle.rules.specs.declared.Marking.{Marking}
use Rattle.rules.specs.declared.Record.{Record}
use Rattle.rules.specs.Counting.{some}
use Rattle.rules.specs.Numbers.{◌if◌, ◌else◌}
use Rattle.rules.specs.Holds.{most_events, record_of, empty_record}
use Rattle.rules.specs.Judge.{events_fit, state_fits, count_fits_lem, record_fits, marking_number, marking_number_for, table_number}
use Rattle.rules.specs.Fields.{field, flag, ◌▸◌, ◌∶◌, bit}
use Rattle.rules.specs.Image.{events_in, class_bit}
use Rattle.rules.specs.Image.{table_length, table_in, read_table, class_byte, table_image, write_table_number, write_table, ImageHolds, unused_empty}
use Rattle.rules.specs.Image.{marking_from, record_bytes, marking_image, record_at, record_bit, read_marking, write_number, write_marking, fresh, fresh_record}
use Rattle.rules.specs.Image.{state_at, event_image}
use Rattle.rules.specs.Carrying.{old_record_bytes, old_record_bit, carried_at, carried, carry_number, carry_marking}
use Rattle.rules.specs.Images.{table_of}
use Rattle.rules.specs.Building.{relations_told, table_from, build_number, build, built_image, relation_told_number, relation_told, class_told_number, Tells}
use Rattle.rules.proofs.Laws.Counting.{places_same}
use Rattle.rules.proofs.Laws.EventSet.{set_has}
use Rattle.rules.proofs.Laws.Fields.{byte_field}
use Rattle.rules.proofs.Laws.Numbers.{if_done, both_done, by_number}
use Rattle.rules.proofs.Laws.Pieces.{piece_out}
use Rattle.rules.proofs.Laws.Written.{table_image_length, table_number_refused, table_number_done, table_bytes_kept, table_bytes_written}
use Rattle.rules.proofs.Laws.Written.{records_sized, image_length, number_done, bytes_kept, bytes_written, later_kept}
use Rattle.image.specs.Laws.Round.{from_done, from_done_for, readable, readable_number, reads_as, images_back, record_again, image_readable}
use Rattle.image.specs.Laws.Carried.{carry_bytes, carry_done, carried_record, carry_numbers, carried_bytes}
use Rattle.image.specs.Parts.{is_controllable_in, is_causable_in}
use Rattle.image.specs.Laws.TableWords.{class_again}
use Rattle.image.specs.Laws.TableRound.{image_judged, image_read_lem, table_readable, table_in_done, table_in_unused, table_image_back}
use Rattle.image.specs.Laws.Built.{told, told_unused, told_done, numbers_again, class_told, firm_again, told_tells}
use Rattle.image.specs.Laws.Built.{table_read, number_read, relation_number_told, relation_told_lem, class_number_told, tells_number, tells_bytes}

-- A marking that is read is accepted by the judge.
pub read_marking_accepted : (events : ℕ) (image : List ℕ) → (read_marking events image).number ≡ 0
    → marking_number_for events (read_marking events image).marking ≡ 0
unfolding read_marking
read_marking_accepted events image h =
    let r = readable events image h in
    rw h (from_done_for events (λ e. record_at image (record_bit e)) r.fit r.done)

-- A marking image that is read has its bytes for each event, and no more.
pub read_marking_exact : (events : ℕ) (image : List ℕ) → (read_marking events image).number ≡ 0 → length image ≡ record_bytes * events
unfolding read_marking
read_marking_exact events image h = (readable events image h).exact

-- A fresh marking is accepted by the judge.
pub fresh_accepted : (events : ℕ) → (fresh events).number ≡ 0 → marking_number_for events (fresh events).marking ≡ 0
unfolding fresh record_fits state_fits count_fits_lem
fresh_accepted events h =
    let fit = not-false (events_fit events) (if_done 2 (not (events_fit events)) h) in
    rw fit (from_done_for events (λ e. fresh_record) fit (λ e l. refl))

-- A table that is read is accepted by the judge.
pub read_table_accepted : (image : List ℕ) → (read_table image).number ≡ 0 → table_number (read_table image).table ≡ 0
unfolding read_table
read_table_accepted image h = rw h (table_in_done image (table_readable image h))

-- A table image that is read is as long as its counts say, and the class byte of an event is its own.
pub read_table_exact : (image : List ℕ) → (read_table image).number ≡ 0
    → length image ≡ table_length (read_table image).table.events (read_table image).table.count
unfolding read_table table_in
read_table_exact image h = rw h (table_readable image h).exact

pub class_is_byte : (image : List ℕ) → (read_table image).number ≡ 0 → (e : ℕ) → e < (read_table image).table.events → get_or image (4 + e) 0 < 256
    → class_byte (read_table image).table e ≡ get_or image (4 + e) 0
unfolding read_table table_in
class_is_byte image h e l small =
    let there : e < events_in image = rw h at l in
    rw h
    (ap₂ (λ (a b : Bool). bit a ▸ 1 ∶ bit b ▸ 6 ∶ 0) (set_has (is_controllable_in image) (events_in image) e there)
    (set_has (is_causable_in image) (events_in image) e there)
    ∙ class_again image (class_bit e) ((table_readable image h).class_clear e there)
    ∙ byte_field image (4 + e) small)

-- Reading what was written gives the marking back, with event places past the count 0.
pub written_is_read : (m : Marking) (buffer : List ℕ) → write_number m (length buffer) ≡ 0
    → read_marking m.events (take (record_bytes * m.events) (write_marking m buffer))
    ≡ record { number = 0; marking = marking_from m.events (record_of m) }
unfolding write_number
written_is_read m buffer h =
    let judged = (both_done (marking_number m) _ h).0 in
    let image = marking_image m in
    let bytes : take (record_bytes * m.events) (write_marking m buffer) ≡ image =
    ap (take (record_bytes * m.events)) (bytes_written m buffer h)
    ∙ take_at image (drop (record_bytes * m.events) buffer) (record_bytes * m.events) (image_length m) in
    ap (read_marking m.events) bytes
    ∙ reads_as m.events image (readable_number m.events image (image_readable m judged))
    ∙ ap (λ (l : List Record). record { number = 0; marking = record { records = l ++ replicate (most_events - m.events) empty_record; events = m.events } })
    (places_same empty_record (λ e. record_at image (record_bit e)) (record_of m) m.events (record_again m judged))

-- Writing what was read gives the same bytes, and later bytes stay.
pub read_is_written : (events : ℕ) (image buffer : List ℕ) → ((i : ℕ) → get_or image i 0 < 256) → (read_marking events image).number ≡ 0
    → record_bytes * events ≤ length buffer
    → (write_number (read_marking events image).marking (length buffer) ≡ 0)
    × (write_marking (read_marking events image).marking buffer ≡ image ++ drop (record_bytes * events) buffer)
unfolding read_marking
read_is_written events image buffer bytes h long =
    let f : ℕ → Record = λ e. record_at image (record_bit e) in
    let r = readable events image h in
    let number = number_done (marking_from events f) (length buffer) (from_done events f r.fit r.done) long in
    rw h
    let back = images_back events image r bytes in
    (number, bytes_written (marking_from events f) buffer number ∙ ap (λ (l : List ℕ). l ++ drop (record_bytes * events) buffer) back)

-- A refusal leaves every byte; a marking that is written leaves every later byte.
pub refused_leaves : (m : Marking) (buffer : List ℕ) → (write_number m (length buffer) ≡ 0 → ⊥) → write_marking m buffer ≡ buffer
refused_leaves m buffer h = bytes_kept m buffer h

pub later_stay : (m : Marking) (buffer : List ℕ) → drop (record_bytes * m.events) (write_marking m buffer) ≡ drop (record_bytes * m.events) buffer
unfolding write_marking
later_stay m buffer = later_kept (write_number m (length buffer)) (marking_image m) buffer (image_length m)

-- Carrying over. What is carried over is read as the marking of the old image.
pub carried_is_read : (events : ℕ) (old buffer : List ℕ) → carry_number events old (length buffer) ≡ 0
    → read_marking events (take (record_bytes * events) (carry_marking events old buffer)) ≡ record { number = 0; marking = carried events old }
unfolding carried
carried_is_read events old buffer h =
    let m = carried events old in
    let d = carry_done events old (length buffer) h in
    ap (λ (l : List ℕ). read_marking events (take (record_bytes * events) l)) (carry_bytes events old d.0 buffer)
    ∙ written_is_read m buffer d.1
    ∙ ap (λ (l : List Record). record { number = 0; marking = record { records = l ++ replicate (most_events - events) empty_record; events = events } })
    (places_same empty_record (record_of m) (λ e. carried_at old (old_record_bit e)) events (carried_record events old))

-- In it each record says what the old bits said, bit p being its event's first, and counts once if its event has happened.
pub record AsOld (old : List ℕ) (p : ℕ) (r : Record) : Type 0 where
  pub happened_as_old : r.happened ≡ flag old p
  pub age_as_old : r.age ≡ field old (p + 1) 30
  pub included_as_old : r.included ≡ flag old (p + 31)
  pub pending_as_old : r.pending ≡ flag old (p + 32)
  pub bounded_as_old : r.bounded ≡ flag old (p + 33)
  pub deadline_as_old : r.deadline ≡ field old (p + 34) 30
  pub counts_once : r.count ≡ cond (flag old p) 1 0

pub carried_as_old : (events : ℕ) (old buffer : List ℕ) → carry_number events old (length buffer) ≡ 0 → (e : ℕ) → e < events
    → AsOld old (64 * e) (record_of (read_marking events (take (record_bytes * events) (carry_marking events old buffer))).marking e)
unfolding carried_at
carried_as_old events old buffer h e l =
    let place : old_record_bit e ≡ 64 * e = omega arith in
    rw (carried_is_read events old buffer h, carried_record events old e l, place)
    (record {
      happened_as_old = refl;
      age_as_old = refl;
      included_as_old = refl;
      pending_as_old = refl;
      bounded_as_old = refl;
      deadline_as_old = refl;
      counts_once = refl;
    })

-- Its bytes are the old ones, and then the 4 bytes of 1 if its event has happened, else of 0.
pub carried_keeps_bytes : (events : ℕ) (old buffer : List ℕ) → ((i : ℕ) → get_or old i 0 < 256) → carry_number events old (length buffer) ≡ 0
    → (e : ℕ) → e < events
    → take record_bytes (drop (record_bytes * e) (carry_marking events old buffer))
    ≡ take old_record_bytes (drop (old_record_bytes * e) old) ++ (0 ∷ 0 ∷ 0 ∷ cond (flag old (64 * e)) 1 0 ∷ [])
unfolding write_number carried
carried_keeps_bytes events old buffer bytes h e l =
    let m = carried events old in
    let d = carry_done events old (length buffer) h in
    let place : old_record_bit e ≡ 64 * e = omega arith in
    ap (λ (s : List ℕ). take record_bytes (drop (record_bytes * e) s)) (carry_bytes events old d.0 buffer ∙ bytes_written m buffer d.1)
    ∙ piece_out (records_sized m) (drop (record_bytes * events) buffer) 0 events e l
    ∙ ap (event_image m) (zero-add e)
    ∙ carried_bytes events old bytes d.0 (both_done (marking_number m) _ d.1).0 e l
    ∙ rw place

-- A refusal leaves every byte; a marking that is carried over leaves every later byte.
pub carry_refused_leaves : (events : ℕ) (old buffer : List ℕ) → (carry_number events old (length buffer) ≡ 0 → ⊥)
    → carry_marking events old buffer ≡ buffer
unfolding carry_marking
carry_refused_leaves events old buffer h = rw (ne_eqb _ 0 h)

pub carry_later_stay : (events : ℕ) (old buffer : List ℕ)
    → drop (record_bytes * events) (carry_marking events old buffer) ≡ drop (record_bytes * events) buffer
unfolding carry_marking carried
carry_later_stay events old buffer =
    by_number (carry_number events old (length buffer)) (λ done. rw done (later_stay (carried events old) buffer)) (λ refused. rw refused)

-- Carrying over never disagrees with the old rules: it refuses with 7 exactly where some old record breaks them, so none is refused for its count.
-- The 0 stands in the place of a count, at which the old rules do not look.
pub carry_never_disagrees : (events : ℕ) (old : List ℕ) (room : ℕ) → carry_number events old room
    ≡ (3 if not (events_fit events)
    else 1 if not (eqb (length old) (old_record_bytes * events))
    else 7 if some events (λ e. not (state_fits (state_at old (old_record_bit e) 0)))
    else 14 if ltb room (record_bytes * events))
carry_never_disagrees events old room = carry_numbers events old room

-- Reading what was written gives the table back, with its unused places empty.
pub table_written_is_read : (t : Table) (buffer : List ℕ) → write_table_number t (length buffer) ≡ 0
    → read_table (take (table_length t.events t.count) (write_table t buffer)) ≡ record { number = 0; table = unused_empty t }
unfolding write_table_number
table_written_is_read t buffer h =
    let long = table_length t.events t.count in
    let bytes : take long (write_table t buffer) ≡ table_image t =
    ap (take long) (table_bytes_written t buffer h) ∙ take_at (table_image t) (drop long buffer) long (table_image_length t) in
    ap read_table bytes ∙ image_read_lem t (both_done (table_number t) _ h).0

-- What is read has its unused places empty already: a table that is read, written and read is the same.
pub read_unused_empty : (image : List ℕ) → (read_table image).number ≡ 0 → unused_empty (read_table image).table ≡ (read_table image).table
unfolding read_table
read_unused_empty image h = rw h (table_in_unused image)

-- Writing what was read gives the same bytes, and later bytes stay.
pub table_read_is_written : (image buffer : List ℕ) → ((i : ℕ) → get_or image i 0 < 256) → (read_table image).number ≡ 0
    → length image ≤ length buffer
    → (write_table_number (read_table image).table (length buffer) ≡ 0)
    × (write_table (read_table image).table buffer ≡ image ++ drop (length image) buffer)
unfolding read_table table_in
table_read_is_written image buffer bytes h long =
    let t = table_in image in
    let r = table_readable image h in
    let number = table_number_done t (length buffer) (table_in_done image r) (rw (sym r.exact) long) in
    rw h (
      number,
      table_bytes_written t buffer number
          ∙ ap₂ (λ (l : List ℕ) (k : ℕ). l ++ drop k buffer) (table_image_back image r bytes) (sym r.exact),
    )

-- A table that an image can hold is judged as its image is read; so a table that breaks a rule is refused with the number that reading its image
-- would give.
pub judged_as_read : (t : Table) → ImageHolds t → (read_table (table_image t)).number ≡ table_number t
unfolding read_table
judged_as_read t held = image_judged t held

pub refused_as_read : (t : Table) → ImageHolds t → (table_number t ≡ 0 → ⊥) → (room : ℕ) → write_table_number t room ≡ (read_table (table_image t)).number
refused_as_read t held h room = table_number_refused t room h ∙ sym (judged_as_read t held)

-- A refusal leaves every byte; a table that is written leaves every later byte.
pub table_refused_leaves : (t : Table) (buffer : List ℕ) → (write_table_number t (length buffer) ≡ 0 → ⊥) → write_table t buffer ≡ buffer
table_refused_leaves t buffer h = table_bytes_kept t buffer h

pub table_later_stay : (t : Table) (buffer : List ℕ)
    → drop (table_length t.events t.count) (write_table t buffer) ≡ drop (table_length t.events t.count) buffer
unfolding write_table
table_later_stay t buffer = later_kept (write_table_number t (length buffer)) (table_image t) buffer (table_image_length t)

-- What is built is read as the table that was told.
pub built_is_read : (events firm : ℕ) (classes numbers buffer : List ℕ) → build_number events firm classes numbers (length buffer) ≡ 0
    → read_table (built_image events firm classes numbers buffer) ≡ record { number = 0; table = table_from events firm classes numbers }
unfolding build table_from
built_is_read events firm classes numbers buffer h =
    let t = table_from events firm classes numbers in
    let long = table_length events (relations_told numbers) in
    let bytes : built_image events firm classes numbers buffer ≡ table_image t =
    rw h (take_at (table_image t) (drop long buffer) long (table_image_length t)) in
    ap read_table bytes
    ∙ image_read_lem t (told_done events firm classes numbers (told events firm classes numbers (length buffer) h))
    ∙ ap (λ (x : Table). record { number = 0; table = x }) (told_unused events firm classes numbers)

-- What is built is told back in the same numbers, each relation
pub built_is_told : (events firm : ℕ) (classes numbers buffer : List ℕ) → build_number events firm classes numbers (length buffer) ≡ 0
    → (k : ℕ) → k < relations_told numbers → (places : List ℕ) → 5 ≤ length places
    → (relation_told_number (built_image events firm classes numbers buffer) k (length places) ≡ 0)
    × (relation_told (built_image events firm classes numbers buffer) k places ≡ take 5 (drop (5 * k) numbers) ++ drop 5 places)
unfolding table_from
built_is_told events firm classes numbers buffer h k l places long =
    let image = built_image events firm classes numbers buffer in
    let t = table_from events firm classes numbers in
    let read = built_is_read events firm classes numbers buffer h in (
      relation_number_told image t read k (length places) l long,
      relation_told_lem image t read k places l long
          ∙ ap (λ (n : List ℕ). n ++ drop 5 places) (numbers_again events firm classes numbers (told events firm classes numbers (length buffer) h) k l),
    )

-- and the class of each event,
pub built_class_is_told : (events firm : ℕ) (classes numbers buffer : List ℕ) → ((i : ℕ) → get_or classes i 0 < 256)
    → build_number events firm classes numbers (length buffer) ≡ 0 → (e : ℕ) → e < events
    → (class_told_number (built_image events firm classes numbers buffer) e ≡ 0)
    × (class_byte (table_of (built_image events firm classes numbers buffer)) e ≡ get_or classes e 0)
unfolding table_from
built_class_is_told events firm classes numbers buffer bytes h e l =
    let image = built_image events firm classes numbers buffer in
    let t = table_from events firm classes numbers in
    let read = built_is_read events firm classes numbers buffer h in (
      class_number_told image t read e l,
      ap (λ (x : Table). class_byte x e) (table_read image t read)
          ∙ class_told events firm classes numbers (told events firm classes numbers (length buffer) h) e l (bytes e),
    )

-- and firm, which is 0 or 1.
pub built_firm_is_told : (events firm : ℕ) (classes numbers buffer : List ℕ) → build_number events firm classes numbers (length buffer) ≡ 0
    → ((read_table (built_image events firm classes numbers buffer)).number ≡ 0)
    × (bit (table_of (built_image events firm classes numbers buffer)).firm ≡ firm)
unfolding table_from
built_firm_is_told events firm classes numbers buffer h =
    let image = built_image events firm classes numbers buffer in
    let t = table_from events firm classes numbers in
    let read = built_is_read events firm classes numbers buffer h in (
      number_read image t read,
      ap (λ (x : Table). bit x.firm) (table_read image t read)
          ∙ firm_again events firm classes numbers (told events firm classes numbers (length buffer) h),
    )

-- So the numbers that a table was built from are such as its image tells.
pub built_tells : (events firm : ℕ) (classes numbers buffer : List ℕ) → ((i : ℕ) → get_or classes i 0 < 256)
    → build_number events firm classes numbers (length buffer) ≡ 0 → Tells firm classes numbers (table_of (built_image events firm classes numbers buffer))
built_tells events firm classes numbers buffer bytes h =
    rw (table_read (built_image events firm classes numbers buffer) (table_from events firm classes numbers) (built_is_read events firm classes numbers buffer h))
    (told_tells events firm classes numbers (told events firm classes numbers (length buffer) h) bytes)

-- Building from what is told gives the same bytes, and later bytes stay: numbers that hold firm, each class and each relation as an image tells them.
pub told_is_built : (image : List ℕ) (firm : ℕ) (classes numbers buffer : List ℕ) → ((i : ℕ) → get_or image i 0 < 256) → (read_table image).number ≡ 0
    → Tells firm classes numbers (table_of image) → length image ≤ length buffer
    → (build_number (table_of image).events firm classes numbers (length buffer) ≡ 0)
    × (build (table_of image).events firm classes numbers buffer ≡ image ++ drop (length image) buffer)
unfolding table_of
told_is_built image firm classes numbers buffer bytes h tells long =
    let t = table_of image in
    let written = table_read_is_written image buffer bytes h long in (
      tells_number firm classes numbers t tells (length buffer) written.0,
      tells_bytes firm classes numbers t tells buffer written.0 (read_unused_empty image h) ∙ written.1,
    )

-- A refusal leaves every byte; a table that is built leaves every later byte.
pub build_refused_leaves : (events firm : ℕ) (classes numbers buffer : List ℕ) → (build_number events firm classes numbers (length buffer) ≡ 0 → ⊥)
    → build events firm classes numbers buffer ≡ buffer
unfolding build
build_refused_leaves events firm classes numbers buffer h = rw (ne_eqb _ 0 h)

pub build_later_stay : (events firm : ℕ) (classes numbers buffer : List ℕ)
    → drop (table_length events (relations_told numbers)) (build events firm classes numbers buffer)
    ≡ drop (table_length events (relations_told numbers)) buffer
unfolding build table_from
build_later_stay events firm classes numbers buffer =
    later_kept (build_number events firm classes numbers (length buffer)) (table_image (table_from events firm classes numbers)) buffer
    (table_image_length (table_from events firm classes numbers))

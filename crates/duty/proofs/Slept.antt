-- Minutes slept through, for a C caller: they are single guarded ticks on the same bytes, one call after another is one call, and up to what
-- duty_quiet tells they cause nothing. It speaks of the contracts themselves, and of what the calls leave in the buffers. Assumes nothing.
use mathlib.Core.Path.{◌≡◌, refl, ◌∙◌, ap, ap₂, sym, subst}
use mathlib.Core.List.{List, [], ◌++◌, map, append-nil}
use Prim.Native.Nat.{ℕ, zero, suc, ◌+◌, ◌*◌, ◌<◌, ◌≤◌}
use native.Mathlib.Omega.{arith}
use lib.ListN.{length, get_or, take, drop_of_length-le}
use borrow.Author.Tests.{eqb-false, le-ltb}
use Rattle.rules.specs.declared.Table.{Table}
use Rattle.rules.specs.declared.Marking.{Marking}
use Rattle.rules.specs.Answers.{GuardedAnswer, SleptAnswer}
use Rattle.rules.specs.CheckAnswer.{Accepts}
use Rattle.rules.specs.Numbers.{◌else◌, done, check_number}
use Rattle.rules.specs.Holds.{most_events}
use Rattle.rules.specs.Judge.{judged}
use Rattle.rules.specs.Image.{record_bytes, read_table, read_marking, marking_image}
use Rattle.rules.specs.Time.{due_answer}
use Rattle.rules.specs.Check.{check}
use Rattle.rules.specs.Guard.{guarded, guarded_tick}
use Rattle.rules.specs.Sleep.{most_ticks, slept, Entry, entry, sleep_number, sleep_answer, places_of, sleep_list}
use Rattle.rules.specs.Quiet.{quiet_answer}
use Rattle.rules.specs.Trace.{end_of}
use Rattle.rules.specs.History.{history_of}
use Rattle.rules.specs.Images.{table_of, marking_of, images_number, on, put_back, guard_number}
use Rattle.rules.specs.Calls.{none, guarded_ticks, ticks_told, Answered as EngineAnswered}
use Rattle.rules.specs.Calls.{listed as engineListed, come_to as engineComeTo, listed_in as engineListedIn, Singly as EngineSingly}
use Rattle.rules.proofs.Laws.Numbers.{both_done, else_done, else_refused, by_number}
use Rattle.rules.proofs.Laws.Trace.{guarded_judged}
use Rattle.rules.proofs.Laws.Sleep.{early_grants, checked}
use Rattle.rules.proofs.Demand3.Sleep.{sleep_singly as engine-singly, sleep_adds as engine-adds, moved_places}
use Rattle.rules.proofs.Demand3.Sleep.{sleep_granted as engine-granted, sleep_accepts, end_slept, marked, told_history}
use Rattle.rules.proofs.Demand3.Chain.{chain}
use Rattle.rules.proofs.Demand3.Quiet.{quiet_sleeps as engine-quiet-sleeps, quiet_ends as engine-quiet-ends}
use Rattle.image.specs.Theorems.{read_is_written}
use Rattle.duty.specs.Laws.Images.{read_judged, marking_long}
use Rattle.duty.specs.Laws.Kept.{fills, filled}
use Rattle.duty.specs.Laws.ReadBack.{put_back_lem}
use Rattle.duty.proofs.Chained.{Check, GuardedTick, Sleep, Quiet, Due, Answered, listed, slept_places}
use Rattle.duty.proofs.Demand3.{first_read, guarded_as_read, guarded_said, first_listed, put_marking}
use Rattle.duty.proofs.Demand3.{accepts, answered, check_said, sleep_said, places_said, after_sleep}

-- the marking's bytes after the first n of some guarded ticks, and the events that these list, each with the number of its tick
abbrev pub come_to : List ℕ → (ℕ → GuardedTick) → ℕ → List ℕ
come_to marking calls zero = marking
come_to marking calls (suc n) = (calls n).left.1.0.now

unfoldable pub listed_in : (ℕ → GuardedTick) → ℕ → List Entry
listed_in calls zero = []
listed_in calls (suc n) = listed_in calls n ++ map (entry (suc n)) (listed (calls n))

-- So many single guarded ticks on one table image, each handed the bytes that the one before left and lent a byte for each event.
abbrev pub Singly : List ℕ → List ℕ → ℕ → (ℕ → GuardedTick) → Type 0
Singly table marking ticks calls =
    (i : ℕ) → i < ticks
    → ((calls i).handed.0.now ≡ table) × ((calls i).handed.1.0.now ≡ come_to marking calls i)
    × ((table_of table).events ≤ length (calls i).handed.1.1.0.now)

-- how many places a sleep tells
abbrev pub slept_count : Sleep → ℕ
slept_count call = call.left.1.1.1.1.0.now

-- the image of what was read is the image that was read
image_again : (table marking : List ℕ) → images_number table marking ≡ 0 → ((i : ℕ) → get_or marking i 0 < 256)
    → marking_image (marking_of table marking) ≡ marking
unfolding images_number marking_of
image_again table marking read bytes =
    let events = (table_of table).events in
    let m = marking_of table marking in
    let long = marking_long table marking read in
    let number = (both_done (read_table table).number (read_marking events marking).number read).1 in
    sym (filled m marking (fills table marking m read (read_judged table marking read)))
    ∙ (read_is_written events marking marking bytes number (omega (arith, long))).1
    ∙ ap (λ (l : List ℕ). marking ++ l) (drop_of_length-le marking {i = record_bytes * events} (omega (arith, long)))
    ∙ append-nil marking

-- a guarded tick that is lent a byte for each event, on images that are read: its number is the rule's, and what it leaves is read as the rule's
-- marking
module _ (table marking : List ℕ) (read : images_number table marking ≡ 0) (call : GuardedTick) (p : call.handed.0.now ≡ table)
    (q : call.handed.1.0.now ≡ marking) (room : (table_of table).events ≤ length call.handed.1.1.0.now)
  where
    abbrev rule : GuardedAnswer
    rule = on guarded_tick table marking

    tick_number_lem : call.answer ≡ rule.number
    unfolding guard_number
    tick_number_lem = (guarded_said call p q).0 ∙ rw (read, le-ltb _ _ room)

    tick_back : (images_number table call.left.1.0.now ≡ 0) × (marking_of table call.left.1.0.now ≡ rule.marking)
    unfolding guarded_tick
    tick_back =
        let m = marking_of table marking in
        put_back_lem table marking read (check_number (on check table marking)) (on guarded table marking) call.left.1.0.now
        ((guarded_said call p q).1 ∙ ap (λ (k : ℕ). put_back k rule.marking marking) tick_number_lem)
        (guarded_judged (table_of table) m (read_judged table marking read))
        (guarded_as_read table marking read m (first_read table marking read))

    -- where it is done: the events that it lists, and the bytes that it leaves
    module _ (granted : rule.number ≡ 0) where
      tick_listed : listed call ≡ engineListed rule
      tick_listed =
          let s = guarded_said call p q in
          first_listed table marking call.answer _ _ _ _ _ _ s.0 s.1 s.2 s.3 (tick_number_lem ∙ granted)

      tick_bytes : call.left.1.0.now ≡ marking_image rule.marking
      tick_bytes =
          let s = guarded_said call p q in
          put_marking table marking call.answer _ _ _ _ _ _ s.0 s.1 s.2 s.3 (tick_number_lem ∙ granted)

-- such ticks, one after another, are the engine's
module _ (table marking : List ℕ) (read : images_number table marking ≡ 0) (ticks : ℕ) (calls : ℕ → GuardedTick)
    (singly : Singly table marking ticks calls)
  where
    reads : (n : ℕ) → n ≤ ticks → images_number table (come_to marking calls n) ≡ 0
    reads zero b = read
    reads (suc i) b =
        let s = singly i (omega (arith, b)) in
        (tick_back table (come_to marking calls i) (reads i (omega (arith, b))) (calls i) s.0 s.1 s.2).0

    abbrev answers : ℕ → GuardedAnswer
    answers i = on guarded_tick table (come_to marking calls i)

    come : (n : ℕ) → n ≤ ticks → marking_of table (come_to marking calls n) ≡ engineComeTo (marking_of table marking) answers n
    come zero b = refl
    come (suc i) b =
        let s = singly i (omega (arith, b)) in
        (tick_back table (come_to marking calls i) (reads i (omega (arith, b))) (calls i) s.0 s.1 s.2).1

    answers_singly : EngineSingly (table_of table) (marking_of table marking) ticks answers
    answers_singly i b = ap (guarded_tick (table_of table)) (come i (omega (arith, b)))

    number_same : (i : ℕ) → i < ticks → (calls i).answer ≡ (answers i).number
    number_same i b =
        let s = singly i b in
        tick_number_lem table (come_to marking calls i) (reads i (omega (arith, b))) (calls i) s.0 s.1 s.2

    module _ (granted : (i : ℕ) → i < ticks → (answers i).number ≡ 0) where
      all_listed : (n : ℕ) → n ≤ ticks → listed_in calls n ≡ engineListedIn answers n
      unfolding listed_in engineListedIn
      all_listed zero b = refl
      all_listed (suc i) b =
          let l : i < ticks = omega (arith, b) in
          let s = singly i l in
          ap₂ (λ (before : List Entry) (here : List ℕ). before ++ map (entry (suc i)) here) (all_listed i (omega (arith, b)))
          (tick_listed table (come_to marking calls i) (reads i (omega (arith, b))) (calls i) s.0 s.1 s.2 (granted i l))

      all_bytes : ((i : ℕ) → get_or marking i 0 < 256) → (n : ℕ) → n ≤ ticks
          → come_to marking calls n ≡ marking_image (engineComeTo (marking_of table marking) answers n)
      all_bytes bytes zero b = sym (image_again table marking read bytes)
      all_bytes bytes (suc i) b =
          let l : i < ticks = omega (arith, b) in
          let s = singly i l in
          tick_bytes table (come_to marking calls i) (reads i (omega (arith, b))) (calls i) s.0 s.1 s.2 (granted i l)

-- what a sleep tells where it is done: the images are read, and the rule's number is 0 too; then the bytes that it leaves, and the count
module _ {table marking : List ℕ} (call : Sleep) (p : call.handed.0.now ≡ table) (q : call.handed.1.0.now ≡ marking)
    (h : call.answer ≡ 0) where
  abbrev told : SleptAnswer
  told = on sleep_answer table marking call.handed.1.1.0 (length call.handed.1.1.1.0.now)

  both : (images_number table marking ≡ 0) × (told.number ≡ 0)
  both = both_done (images_number table marking) told.number (sym (sleep_said call p q).0 ∙ h)

  slept_bytes : call.left.1.0.now ≡ marking_image told.marking
  slept_bytes = rw h at (sleep_said call p q).1

  slept_count_lem : slept_count call ≡ told.count
  slept_count_lem = rw h at (sleep_said call p q).3

  -- what it leaves is read as the rule's marking
  slept_back : (images_number table call.left.1.0.now ≡ 0) × (marking_of table call.left.1.0.now ≡ told.marking)
  slept_back =
      let s = sleep_said call p q in
      let n = after_sleep table marking both.0 call.handed.1.1.0 _ call.answer call.left.1.0.now s.0 s.1 in
      (n.reads, n.holds)

-- Sleeping so many ticks is so many single guarded ticks, none of which is refused: the marking's bytes are those that the last of them left, and the
-- list is what they listed, each with the number of its tick. That each place of the marking's buffer is a byte is a fact of its type.
pub sleep_singly : {table marking : List ℕ} (call : Sleep) → call.handed.0.now ≡ table → call.handed.1.0.now ≡ marking → call.answer ≡ 0
    → ((i : ℕ) → get_or marking i 0 < 256) → let ticks = call.handed.1.1.0 in
    (calls : ℕ → GuardedTick) → Singly table marking ticks calls
    → ((i : ℕ) → i < ticks → (calls i).answer ≡ 0) × (call.left.1.0.now ≡ come_to marking calls ticks)
    × (slept_count call ≡ length (listed_in calls ticks)) × (slept_places call ≡ places_of (listed_in calls ticks))
sleep_singly {table} {marking} call p q h bytes calls singly =
    let ticks = call.handed.1.1.0 in
    let lent = call.handed.1.1.1.0.now in
    let d = both call p q h in
    let one = answers table marking d.0 ticks calls singly in
    let e = engine-singly (table_of table) (marking_of table marking) ticks lent (on sleep_answer table marking ticks (length lent)) refl d.1 one
    (answers_singly table marking d.0 ticks calls singly) in
    let same = all_listed table marking d.0 ticks calls singly e.3 ticks (omega arith) in (
      λ i b. number_same table marking d.0 ticks calls singly i b ∙ e.3 i b,
      slept_bytes call p q h ∙ ap marking_image e.0 ∙ sym (all_bytes table marking d.0 ticks calls singly e.3 bytes ticks (omega arith)),
      slept_count_lem call p q h ∙ e.1 ∙ ap (λ (l : List Entry). length l) (sym same),
      places_said call p q h ∙ e.2 ∙ ap places_of (sym same),
    )

-- Sleeping a ticks and then b is sleeping a + b, with the second list's tick numbers moved by a, where a + b is within the limit and no list is too
-- short.
pub sleep_adds : {table marking : List ℕ} (first second whole : Sleep)
    → first.handed.0.now ≡ table → first.handed.1.0.now ≡ marking → first.answer ≡ 0
    → second.handed.0.now ≡ table → second.handed.1.0.now ≡ first.left.1.0.now → second.answer ≡ 0
    → whole.handed.0.now ≡ table → whole.handed.1.0.now ≡ marking
    → let a = first.handed.1.1.0 in let b = second.handed.1.1.0 in
    whole.handed.1.1.0 ≡ a + b → a + b ≤ most_ticks → slept_count first + slept_count second ≤ length whole.handed.1.1.1.0.now
    → (whole.answer ≡ 0) × (whole.left.1.0.now ≡ second.left.1.0.now) × (slept_count whole ≡ slept_count first + slept_count second)
    × (slept_places whole ≡ slept_places first ++ moved_places a (slept_places second))
sleep_adds {table} {marking} first second whole p q h p' q' h' p'' q'' sum few room =
    let t = table_of table in
    let m = marking_of table marking in
    let a = first.handed.1.1.0 in
    let b = second.handed.1.1.0 in
    let other-list = second.handed.1.1.1.0.now in
    let list = whole.handed.1.1.1.0.now in
    let one = told first p q h in
    let other = told second p' q' h' in
    let read = (both first p q h).0 in
    let between = (slept_back first p q h).1 in
    let one-count = slept_count_lem first p q h in
    let other-count = slept_count_lem second p' q' h' in
    let e = engine-adds t m a b first.handed.1.1.1.0.now other-list list one other (sleep_answer t m (a + b) (length list))
    refl (both first p q h).1 (ap (λ (k : Marking). sleep_answer t k b (length other-list)) between) (both second p' q' h').1
    few (omega (arith, room, one-count, other-count)) refl in
    let as-sum : sleep_answer t m whole.handed.1.1.0 (length list) ≡ sleep_answer t m (a + b) (length list) =
    ap (λ (n : ℕ). sleep_answer t m n (length list)) sum in
    let granted : whole.answer ≡ 0 = (sleep_said whole p'' q'').0 ∙ else_done _ read ∙ ap (λ (s : SleptAnswer). s.number) as-sum ∙ e.0 in (
      granted,
      slept_bytes whole p'' q'' granted ∙ ap (λ (s : SleptAnswer). marking_image s.marking) as-sum ∙ ap marking_image e.1
          ∙ sym (slept_bytes second p' q' h'),
      slept_count_lem whole p'' q'' granted ∙ ap (λ (s : SleptAnswer). s.count) as-sum ∙ e.2 ∙ ap₂ ◌+◌ (sym one-count) (sym other-count),
      places_said whole p'' q'' granted
          ∙ ap (λ (n : ℕ). take (sleep_answer t m n (length list)).count (sleep_list t m n list)) sum
          ∙ e.3
          ∙ ap₂ (λ (before here : List ℕ). before ++ moved_places a here) (sym (places_said first p q h))
          (ap (λ (k : Marking). take other.count (sleep_list t k b other-list)) (sym between) ∙ sym (places_said second p' q' h')),
    )

-- where the check rejects, the rule's number is 12, however many ticks and places there are within the limit
rejected_number : (t : Table) (m : Marking) → judged t m ≡ 0 → check_number (check t m) ≡ 12 → (ticks room : ℕ) → ticks ≤ most_ticks
    → (sleep_answer t m ticks room).number ≡ 12
unfolding sleep_answer sleep_number check
rejected_number t m done h ticks room few = rw (checked t m ticks (early_grants t m ticks done few), rw done at h) refl

-- Where duty_check answers 12, so does any sleep of no more ticks than the limit, and leaves the marking's bytes.
pub sleep_rejected : {table marking : List ℕ} (checks : Check) → checks.handed.0.now ≡ table → checks.handed.1.0.now ≡ marking
    → checks.answer ≡ 12 → (call : Sleep) → call.handed.0.now ≡ table → call.handed.1.0.now ≡ marking → call.handed.1.1.0 ≤ most_ticks
    → (call.answer ≡ 12) × (call.left.1.0.now ≡ marking)
sleep_rejected {table} {marking} checks p q h call p' q' few =
    let n = images_number table marking in
    let s = sleep_said call p' q' in
    let c = sym (check_said checks p q) ∙ h in
    let number : call.answer ≡ 12 =
    by_number n
    (λ read. let own = rejected_number (table_of table) (marking_of table marking) (read_judged table marking read) (sym (else_done _ read) ∙ c) in
    s.0 ∙ else_done _ read ∙ own call.handed.1.1.0 _ few)
    (λ r. let away = eqb-false n 0 r in s.0 ∙ else_refused _ away ∙ sym (else_refused _ away) ∙ c) in
    (number, rw number at s.1)

-- Then all three are refused with 12, whatever lists are lent: so is the second, as the first leaves the marking's bytes.
pub sleep_adds_rejected : {table marking : List ℕ} (checks : Check) → checks.handed.0.now ≡ table → checks.handed.1.0.now ≡ marking
    → checks.answer ≡ 12 → (first second whole : Sleep)
    → first.handed.0.now ≡ table → first.handed.1.0.now ≡ marking
    → second.handed.0.now ≡ table → second.handed.1.0.now ≡ first.left.1.0.now
    → whole.handed.0.now ≡ table → whole.handed.1.0.now ≡ marking
    → let a = first.handed.1.1.0 in let b = second.handed.1.1.0 in
    whole.handed.1.1.0 ≡ a + b → a + b ≤ most_ticks
    → ((first.answer ≡ 12) × (first.left.1.0.now ≡ marking)) × ((second.answer ≡ 12) × (second.left.1.0.now ≡ marking))
    × ((whole.answer ≡ 12) × (whole.left.1.0.now ≡ marking))
sleep_adds_rejected checks p q h first second whole p' q' p'' q'' p''' q''' sum few =
    let one = sleep_rejected checks p q h first p' q' (omega (arith, few)) in (
      one,
      sleep_rejected checks p q h second p'' (q'' ∙ one.1) (omega (arith, few)),
      sleep_rejected checks p q h whole p''' q''' (omega (arith, few, sum)),
    )

-- Where duty_check answers 0, a sleep of no more ticks than the limit, lent a place for each event that there can be at each of them, is granted.
pub sleep_granted : {table marking : List ℕ} (checks : Check) → checks.handed.0.now ≡ table → checks.handed.1.0.now ≡ marking → checks.answer ≡ 0
    → (call : Sleep) → call.handed.0.now ≡ table → call.handed.1.0.now ≡ marking → call.handed.1.1.0 ≤ most_ticks
    → most_events * call.handed.1.1.0 ≤ length call.handed.1.1.1.0.now → call.answer ≡ 0
sleep_granted {table} {marking} checks p q h call p' q' few fits =
    let t = table_of table in
    let m = marking_of table marking in
    let d = both_done (images_number table marking) (check_number (check t m)) (sym (check_said checks p q) ∙ h) in
    (sleep_said call p' q').0 ∙ else_done _ d.0
    ∙ engine-granted t m (accepts t m (read_judged table marking d.0) d.1) call.handed.1.1.0 (length call.handed.1.1.1.0.now) few fits

-- Where duty_check answers 0 and a sleep is granted, the bytes that it leaves are read, as the marking that so many guarded ticks end with; what the
-- list tells is their history; and from there, and along any chain of calls from there, the caller is answered as in demand 3.
pub sleep_answered : {table marking : List ℕ} (checks : Check) → checks.handed.0.now ≡ table → checks.handed.1.0.now ≡ marking → checks.answer ≡ 0
    → (call : Sleep) → call.handed.0.now ≡ table → call.handed.1.0.now ≡ marking → call.answer ≡ 0
    → let steps = guarded_ticks call.handed.1.1.0 in
    (images_number table call.left.1.0.now ≡ 0)
    × (marking_of table call.left.1.0.now ≡ end_of (table_of table) (marking_of table marking) steps)
    × (ticks_told call.handed.1.1.0 (slept_places call) ≡ history_of (table_of table) (marking_of table marking) steps)
    × Answered table call.left.1.0.now
sleep_answered {table} {marking} checks p q h call p' q' h' =
    let t = table_of table in
    let m = marking_of table marking in
    let ticks = call.handed.1.1.0 in
    let lent = call.handed.1.1.1.0.now in
    let d = both_done (images_number table marking) (check_number (check t m)) (sym (check_said checks p q) ∙ h) in
    let accepted = accepts t m (read_judged table marking d.0) d.1 in
    let granted = (both call p' q' h').1 in
    let back = slept_back call p' q' h' in
    let there = back.1 ∙ marked t m ticks lent (sleep_answer t m ticks (length lent)) refl granted in
    let k = slept t m ticks in
    let from = chain t k k [] (check t k) refl (sleep_accepts t m accepted ticks) none in (
      back.0,
      there ∙ sym (end_slept t m accepted ticks),
      ap (ticks_told ticks) (places_said call p' q' h') ∙ told_history t m ticks lent (sleep_answer t m ticks (length lent)) refl granted,
      answered table call.left.1.0.now back.0 (subst (EngineAnswered t) (sym there) from.2),
    )

-- what duty_quiet and duty_due tell: how many ticks, and the set
abbrev pub quiet_told : Quiet → ℕ
quiet_told call = call.left.1.1.0.now

abbrev pub due_told : Due → ℕ
due_told call = call.left.1.1.0.now

module _ {table marking : List ℕ} where
  quiet_said : (call : Quiet) → call.handed.0.now ≡ table → call.handed.1.0.now ≡ marking
      → (call.answer ≡ (images_number table marking else (on quiet_answer table marking).number))
      × (call.left.1.1.0.now ≡ done call.answer (on quiet_answer table marking).ticks call.handed.1.1.0.now)
  quiet_said call p q = rw (← p, ← q) call.promised

  due_said : (call : Due) → call.handed.0.now ≡ table → call.handed.1.0.now ≡ marking
      → (call.answer ≡ (images_number table marking else (on due_answer table marking).number))
      × (call.left.1.1.0.now ≡ done call.answer (on due_answer table marking).set call.handed.1.1.0.now)
  due_said call p q = rw (← p, ← q) call.promised

-- Where duty_check answers 0, and duty_quiet is asked there:
module _ {table marking : List ℕ} (checks : Check) (p : checks.handed.0.now ≡ table) (q : checks.handed.1.0.now ≡ marking)
    (h : checks.answer ≡ 0) (asked : Quiet) (p' : asked.handed.0.now ≡ table) (q' : asked.handed.1.0.now ≡ marking)
  where
    parts : (images_number table marking ≡ 0) × (check_number (on check table marking) ≡ 0)
    parts = both_done (images_number table marking) (check_number (on check table marking)) (sym (check_said checks p q) ∙ h)

    judged_done : on judged table marking ≡ 0
    judged_done = read_judged table marking parts.0

    accepted : on check table marking ≡ Accepts
    accepted = accepts (table_of table) (marking_of table marking) judged_done parts.1

    -- It is answered.
    pub quiet_answers : asked.answer ≡ 0
    unfolding quiet_answer
    quiet_answers = (quiet_said asked p' q').0 ∙ rw parts.0 judged_done

    ticks_told_lem : quiet_told asked ≡ (on quiet_answer table marking).ticks
    ticks_told_lem = rw quiet_answers at (quiet_said asked p' q').1

    -- Sleeping any number of ticks up to what it tells is granted and causes nothing, whatever list is lent.
    pub quiet_sleeps : (call : Sleep) → call.handed.0.now ≡ table → call.handed.1.0.now ≡ marking → call.handed.1.1.0 ≤ quiet_told asked
        → (call.answer ≡ 0) × (slept_count call ≡ 0) × (call.left.1.1.1.0.now ≡ call.handed.1.1.1.0.now)
    quiet_sleeps call p'' q'' b =
        let ticks = call.handed.1.1.0 in
        let list = call.handed.1.1.1.0.now in
        let s = sleep_said call p'' q'' in
        let e = engine-quiet-sleeps (table_of table) (marking_of table marking) accepted (on quiet_answer table marking) refl
        ticks (omega (arith, b, ticks_told_lem)) list (on sleep_answer table marking ticks (length list)) refl in
        let granted : call.answer ≡ 0 = s.0 ∙ else_done _ parts.0 ∙ e.0 in
        (granted, slept_count_lem call p'' q'' granted ∙ e.1, rw granted at s.2 ∙ e.3)

    -- Where it tells less than the limit, an event is due after sleeping so many ticks: duty_due answers 0 on the bytes left, with a set that is not
    -- empty.
    pub quiet_ends : quiet_told asked < most_ticks → (call : Sleep) → call.handed.0.now ≡ table → call.handed.1.0.now ≡ marking
        → call.handed.1.1.0 ≡ quiet_told asked → (then : Due) → then.handed.0.now ≡ table → then.handed.1.0.now ≡ call.left.1.0.now
        → (then.answer ≡ 0) × (due_told then ≡ 0 → ⊥)
    quiet_ends b call p'' q'' same then p''' q''' =
        let t = table_of table in
        let m = marking_of table marking in
        let answer = quiet_answer t m in
        let list = call.handed.1.1.1.0.now in
        let granted = (quiet_sleeps call p'' q'' (omega (arith, same))).0 in
        let back = slept_back call p'' q'' granted in
        let there = back.1 ∙ ap (λ (n : ℕ). (sleep_answer t m n (length list)).marking) (same ∙ ticks_told_lem) in
        let e = engine-quiet-ends t m accepted answer refl (omega (arith, b, ticks_told_lem)) list (sleep_answer t m answer.ticks (length list)) refl
        (due_answer t (marking_of table call.left.1.0.now)) (ap (due_answer t) there) in
        let s = due_said then p''' q''' in
        let answers-zero : then.answer ≡ 0 = s.0 ∙ else_done _ back.0 ∙ e.0 in
        (answers-zero, λ none. e.1 (sym (rw answers-zero at s.1) ∙ none))

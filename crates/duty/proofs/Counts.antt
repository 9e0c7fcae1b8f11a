-- How often each event was done, for a C caller who chains the exported calls on one marking buffer, lists offered among them: a count is its start
-- plus the executions of that event that the calls' answers tell, up to the hold. Of the images it is asked that they are read; no check is asked.
-- Assumes nothing.
use mathlib.Core.Path.{◌≡◌, ◌∙◌, ap, sym}
use mathlib.Core.Bool.{not}
use mathlib.Core.List.{List, ◌++◌}
use Prim.Native.Nat.{ℕ, ◌+◌, ◌<◌, min}
use lib.Dec.{ltb}
use lib.ListN.{length, get_or, drop}
use Rattle.rules.specs.declared.Step.{Step}
use Rattle.rules.specs.Numbers.{◌if◌}
use Rattle.rules.specs.Holds.{count_limit, record_of}
use Rattle.rules.specs.Images.{table_of, marking_of, images_number, record_fields, fields_number, fields_told}
use Rattle.rules.specs.History.{Act, executions_of}
use Rattle.rules.proofs.Laws.Numbers.{both_done}
use Rattle.rules.proofs.Demand3.Counts.{judged_counts, calls_count}
use Rattle.duty.specs.Laws.Images.{read_judged}
use Rattle.duty.specs.Laws.Told.{existing}
use Rattle.duty.proofs.Chained.{Record, Chained, acts_in}
use Rattle.duty.proofs.Demand3.{follows}

-- Along any chain from images that are read.
pub counted : {table marking end : List ℕ} {steps : List Step} (calls : Chained table marking steps end) → images_number table marking ≡ 0
    → (x : ℕ) → x < (table_of table).events
    → (record_of (marking_of table end) x).count ≡ min ((record_of (marking_of table marking) x).count + executions_of x (acts_in calls)) count_limit
counted {table} {marking} {end} calls read x exists =
    let t = table_of table in
    let m = marking_of table marking in
    let b = judged_counts t m (read_judged table marking read) x exists in
    let f = (follows calls read).1 in
    calls_count t f.calls x b.0 b.1
    ∙ ap (λ (acts : List Act). min ((record_of m x).count + executions_of x acts) count_limit) f.same

-- The count that duty_record tells: the last of the seven places.
abbrev pub told_count : Record → ℕ
told_count call = get_or call.left.1.1.1.0.now 6 0

-- what it tells where it is done: the images are read, the event exists, and the place holds the record's count
told : {table marking : List ℕ} (call : Record) → call.handed.0.now ≡ table → call.handed.1.0.now ≡ marking → call.answer ≡ 0
    → let x = call.handed.1.1.0 in
    (images_number table marking ≡ 0) × (x < (table_of table).events) × (told_count call ≡ (record_of (marking_of table marking) x).count)
unfolding fields_number fields_told
told {table} {marking} call p q h =
    let x = call.handed.1.1.0 in
    let lent = call.handed.1.1.1.0.now in
    let said : (call.answer ≡ fields_number table marking x (length lent)) × (call.left.1.1.1.0.now ≡ fields_told table marking x lent) =
    rw (← p, ← q) call.promised in
    let none : fields_number table marking x (length lent) ≡ 0 = sym said.0 ∙ h in
    let put : call.left.1.1.1.0.now ≡ record_fields (record_of (marking_of table marking) x) ++ drop 7 lent = said.1 ∙ rw none in
    let parts = both_done (images_number table marking) _ none in (
      parts.0,
      existing (table_of table).events x (both_done (8 if not (ltb x (table_of table).events)) _ parts.1).0,
      ap (λ (l : List ℕ). get_or l 6 0) put,
    )

-- The same as the caller sees it, who asks duty_record for an event before a chain and after it.
pub told_counts : {table marking end : List ℕ} {steps : List Step} (calls : Chained table marking steps end) (first last : Record)
    → first.handed.0.now ≡ table → first.handed.1.0.now ≡ marking → first.answer ≡ 0
    → last.handed.0.now ≡ table → last.handed.1.0.now ≡ end → last.answer ≡ 0
    → last.handed.1.1.0 ≡ first.handed.1.1.0
    → told_count last ≡ min (told_count first + executions_of first.handed.1.1.0 (acts_in calls)) count_limit
told_counts {table} {marking} {end} calls first last p q h p' q' h' same =
    let one = told first p q h in
    let other = told last p' q' h' in
    other.2
    ∙ ap (λ (x : ℕ). (record_of (marking_of table end) x).count) same
    ∙ counted calls one.0 first.handed.1.1.0 one.1
    ∙ ap (λ (n : ℕ). min (n + executions_of first.handed.1.1.0 (acts_in calls)) count_limit) (sym one.2)

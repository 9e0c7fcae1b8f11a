-- Acting by the row of an event, which stands from `at` on, and by its links: what holds it back, and what its effect makes of the sets and of
-- the columns.
use Rattle.std.specs.Prelude.{◌≡◌, Bool, not, ◌&&◌, ◌||◌, cond, List, ℕ, ◌<◌, ◌+◌, ◌/◌, ◌%◌, min, ltb, length, get_or}
use Rattle.rules.specs.declared.Table.{Table}
use Rattle.rules.specs.EventSet.{has}
use Rattle.rules.specs.Holds.{relation_of}
use Rattle.rules.specs.Counting.{some}
use Rattle.rules.specs.Effect.{Deadline, is_bounded, ticks_of, response}
use Rattle.acts.specs.Derived.{of_sort}
use Rattle.acts.specs.Stands.{age_at}

-- x holds the event back: as a condition it is included and never happened, as a milestone it is included and pending
abbrev pub holds_back_at : List ℕ → ℕ → List ℕ → ℕ → Bool
holds_back_at rows at sets x =
    (has (get_or rows (at + 0) 0) x || has (get_or rows (at + 1) 0) x) && (has (get_or sets 1 0) x && not (has (get_or sets 0 0) x))
    || has (get_or rows (at + 2) 0) x && (has (get_or sets 1 0) x && has (get_or sets 2 0) x)

-- some event below 64 does
unfoldable pub held_back : List ℕ → ℕ → List ℕ → Bool
held_back rows at sets = some 64 (holds_back_at rows at sets)

-- an event is included, and younger than a time
abbrev pub young_by : ℕ → ℕ → List ℕ → ℕ → ℕ → Bool
young_by clock included columns x time = has included x && ltb (age_at clock columns x) time

-- the right event of a link, against the link's time
abbrev pub is_young : ℕ → ℕ → List ℕ → ℕ → Bool
is_young clock included columns w = young_by clock included columns (w / 512 % 64) (w / 32768 % 1073741824)

-- relation k is a condition of e with a time, and its right event is included and younger
abbrev pub waits_for : Table → ℕ → ℕ → ℕ → List ℕ → ℕ → Bool
waits_for t e clock included columns k =
    of_sort t 1 e k && young_by clock included columns (relation_of t k).right (relation_of t k).time

-- included: as before but the excluded ones, and those that are included
abbrev pub included_after : List ℕ → ℕ → ℕ → ℕ → Bool
included_after rows at included x =
    has included x && not (has (get_or rows (at + 6) 0) x) || (has (get_or rows (at + 5) 0) x || has (get_or rows (at + 7) 0) x)

-- an event is the target of a response
abbrev pub asked_at : List ℕ → ℕ → ℕ → Bool
asked_at rows at x = has (get_or rows (at + 3) 0) x || has (get_or rows (at + 4) 0) x

-- pending: those that still are, once the event itself is cleared, and the targets
abbrev pub pending_after : List ℕ → ℕ → ℕ → ℕ → Bool
pending_after rows at pending x = has pending x || asked_at rows at x

-- x has a date that no response moves out: it is of a firm table, and still has a deadline
abbrev pub kept_at : ℕ → ℕ → ℕ → ℕ → Bool
kept_at firm pending bounded x = has firm x && (has pending x && has bounded x)

-- with a deadline: those that still have one and are no target, those that are given one, and those whose date is kept
abbrev pub bounded_after : List ℕ → ℕ → ℕ → ℕ → ℕ → Bool
bounded_after rows at bounded kept x = (has bounded x && not (asked_at rows at x) || has (get_or rows (at + 3) 0) x) || has kept x

-- The date that stands once a deadline is given besides: the earlier one where the old date counts, else the new one
abbrev pub sooner : ℕ → Deadline → Bool → ℕ → ℕ
sooner clock d counts date = cond (is_bounded d) (cond counts (min (clock + ticks_of d) date) (clock + ticks_of d)) date

-- the deadlines that e's bounded responses give stand in the second column, the dates of `kept` counting, and what stands elsewhere is as it was
pub record Responded (t : Table) (e clock kept : ℕ) (before after : List ℕ) : Type 0 where
  pub same_size : length after ≡ length before
  pub elsewhere : (place : ℕ) → ((x : ℕ) → x < 64 → place ≡ 64 + x → ⊥) → get_or after place 0 ≡ get_or before place 0
  pub deadlines : (x : ℕ) → x < 64
      → get_or after (64 + x) 0 ≡ sooner clock (response t e x) (has kept x) (get_or before (64 + x) 0)

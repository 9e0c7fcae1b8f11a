-- The caused events of a guarded tick that is done: they are the answer's first places, and they fit where the buffer has a byte for each event.
-- The numbers before the tick's own: reading, then the room. Assumes nothing.
use Rattle.std.specs.Prelude.{◌≡◌, refl, false, List, ℕ, ◌≤◌, ◌-◌, take, replicate, Result, Ok, Err}
use Rattle.std.proofs.Common.{◌∙◌, subst, arith}
use Rattle.std.proofs.Math.Path.{ap, sym}
use Rattle.std.proofs.Math.Dec.{ltb}
use Rattle.std.proofs.Math.ListN.{length}
use Rattle.std.proofs.Math.Seq.{take_at}
use borrow.Author.Tests.{ltb-false}
use Rattle.rules.specs.declared.Table.{Table}
use Rattle.rules.specs.declared.Marking.{Marking}
use Rattle.rules.specs.Answers.{GuardedAnswer}
use Rattle.rules.specs.declared.answers.Guarded.{Guarded}
use Rattle.rules.specs.declared.verdict.CheckError.{CheckError}
use Rattle.rules.specs.declared.verdict.CheckError.TheVariants.{Refused, Rejected}
use Rattle.rules.specs.Numbers.{◌else◌, done, check_number}
use Rattle.rules.specs.Results.{as_guarded}
use Rattle.rules.specs.Holds.{most_events}
use Rattle.rules.specs.Judge.{judged}
use Rattle.rules.specs.Check.{check}
use Rattle.rules.specs.Guard.{caused, guarded_tick}
use Rattle.rules.specs.Images.{table_of, marking_of, images_number, on, guard_number}
use Rattle.rules.proofs.Laws.Numbers.{if_done, both_done}
use Rattle.rules.proofs.Laws.Judge.{good}
use Rattle.rules.proofs.Laws.Taken.{caused_length}
use Rattle.duty.specs.Performing.{Fills}
use Rattle.duty.specs.Telling.{check_number_of, reason_left, place_left}
use Rattle.duty.specs.Laws.Images.{read_judged}
use Rattle.duty.specs.Laws.Kept.{guarded_tick_judged, fills}
use Rattle.duty.specs.Laws.Checked.{Early, granted, number_behind, told_behind, guarded_tells}

module _ (t : Table) (m : Marking) (answer : GuardedAnswer) (answer-is : answer ≡ guarded_tick t m) (h : answer.number ≡ 0) where
  accepted : check_number (check t m) ≡ 0
  unfolding guarded_tick
  accepted = sym (ap (λ (a : GuardedAnswer). a.number) answer-is) ∙ h

  pub count_is : answer.count ≡ length (caused t m)
  unfolding guarded_tick
  count_is = ap (λ (a : GuardedAnswer). a.count) answer-is ∙ rw accepted

  pub count_few : answer.count ≤ t.events
  count_few = omega (arith, count_is, caused_length t m)

  pub caused_is : take answer.count answer.caused ≡ caused t m
  unfolding guarded_tick
  caused_is =
      ap (take answer.count) (ap (λ (a : GuardedAnswer). a.caused) answer-is ∙ rw accepted)
      ∙ take_at (caused t m) (replicate (most_events - length (caused t m)) 0) answer.count (sym count_is)

-- the tick of what was read, where there is room
module _ (table marking : List ℕ) (bytes : ℕ) (answer : Result Guarded CheckError)
    (refuses : (guard_number table marking bytes ≡ 0 → ⊥) → Early (guard_number table marking bytes) answer)
    (ticked : guard_number table marking bytes ≡ 0 → as_guarded (marking_of table marking) answer ≡ on guarded_tick table marking) where
  parts : guard_number table marking bytes ≡ 0 → (images_number table marking ≡ 0) × (ltb bytes (table_of table).events ≡ false)
  unfolding guard_number
  parts h = let both = both_done (images_number table marking) _ h in (both.0, if_done 13 _ both.1)

  tick_number : guard_number table marking bytes ≡ 0 → check_number_of answer ≡ (on guarded_tick table marking).number
  tick_number h = go answer (ticked h)
    where
      go : (a : Result Guarded CheckError) → as_guarded (marking_of table marking) a ≡ on guarded_tick table marking
          → check_number_of a ≡ (on guarded_tick table marking).number
      go (Ok guarded) e = ap (λ (g : GuardedAnswer). g.number) e
      go (Err (Refused r)) e = ap (λ (g : GuardedAnswer). g.number) e
      go (Err (Rejected rejection)) e = ap (λ (g : GuardedAnswer). g.number) e

  pub ticked_number : check_number_of answer ≡ (guard_number table marking bytes else (on guarded_tick table marking).number)
  ticked_number = number_behind (guard_number table marking bytes) answer refuses _ tick_number

  pub ticked_told : (before was : ℕ)
      → (reason_left before answer ≡ done (guard_number table marking bytes) (on guarded_tick table marking).reason before)
      × (place_left was answer ≡ done (guard_number table marking bytes) (on guarded_tick table marking).place was)
  ticked_told =
      told_behind (guard_number table marking bytes) answer refuses (on guarded_tick table marking).reason (on guarded_tick table marking).place
      (λ h. guarded_tells (table_of table) (marking_of table marking) (read_judged table marking (parts h).0) answer (ticked h))

  -- where it is done
  module _ (g : Guarded) (is : answer ≡ Ok g) where
    done_before : guard_number table marking bytes ≡ 0
    done_before = granted (guard_number table marking bytes) answer refuses g is

    done_is : as_guarded (marking_of table marking) (Ok g) ≡ on guarded_tick table marking
    done_is = ap (as_guarded (marking_of table marking)) (sym is) ∙ ticked done_before

    pub caused_few : g.count ≤ 64
    caused_few =
        omega (
          arith,
          count_few (table_of table) (marking_of table marking) _ done_is refl,
          (good _ _ (read_judged table marking (parts done_before).0)).table_good.few_events,
        )

    pub caused_room : g.count ≤ bytes
    caused_room =
        omega (
          arith,
          count_few (table_of table) (marking_of table marking) _ done_is refl,
          ltb-false bytes (table_of table).events (parts done_before).1,
        )

    pub ticked_fills : Fills g.marking marking
    ticked_fills =
        fills table marking g.marking (parts done_before).0
        (subst (λ (k : Marking). judged (table_of table) k ≡ 0) (sym (ap (λ (a : GuardedAnswer). a.marking) done_is))
        (guarded_tick_judged (table_of table) (marking_of table marking) (read_judged table marking (parts done_before).0)))

    pub ticked_count : g.count ≡ length (on caused table marking)
    ticked_count = count_is (table_of table) (marking_of table marking) _ done_is refl

    pub ticked_caused : take g.count g.caused ≡ on caused table marking
    ticked_caused = caused_is (table_of table) (marking_of table marking) _ done_is refl

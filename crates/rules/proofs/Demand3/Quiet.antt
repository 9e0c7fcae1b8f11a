-- How long a caller may sleep: where the check accepts, sleeping any number of ticks up to the answer of quiet causes nothing; and where that is
-- below the limit, an event is due after so many. Assumes nothing.
use Rattle.std.specs.Prelude.{◌≡◌, true, false, ℕ, ◌<◌, ◌≤◌}
use Rattle.std.proofs.Math.Path.{refl, ap, sym}
use Rattle.std.proofs.Common.{◌∙◌, arith}
use mathlib.Core.List.{List, []}
use Rattle.std.proofs.Math.Logic.{⊎_elim}
use Rattle.std.proofs.Math.ListN.{length}
use Rattle.rules.specs.declared.Table.{Table}
use Rattle.rules.specs.declared.Marking.{Marking}
use Rattle.rules.specs.Answers.{SetAnswer, SleptAnswer, TicksAnswer}
use Rattle.rules.specs.CheckAnswer.{Accepts}
use Rattle.rules.specs.Counting.{repeated}
use Rattle.rules.specs.Judge.{judged}
use Rattle.rules.specs.Time.{any_due, time, due_answer}
use Rattle.rules.specs.Check.{check}
use Rattle.rules.specs.Sleep.{most_ticks, Entry, slept, slept_caused, sleep_answer, sleep_list}
use Rattle.rules.specs.Quiet.{quiet_ticks, quiet_answer}
use Rattle.rules.proofs.Laws.Tests.{clash}
use Rattle.rules.proofs.Laws.Counting.{Found, Lacks, lowest_cases, lowest_le, lowest_before}
use Rattle.rules.proofs.Laws.Judge.{good}
use Rattle.rules.proofs.Laws.Time.{none_due_yet}
use Rattle.rules.proofs.Laws.Sleep.{grants, quiet_run}
use Rattle.rules.proofs.Demand3.Accepts.{check_parts}
use Rattle.rules.proofs.Demand3.Sleep.{sleep_accepts}

-- Of some ticks, those that are quiet: nothing is due before any of them, and where they are fewer, something is due after the last
module _ (m : Marking) (most : ℕ) where
  pub quiet_few : quiet_ticks m most ≤ most
  unfolding quiet_ticks
  quiet_few = lowest_le _ most

  pub quiet_before : (i : ℕ) → i < quiet_ticks m most → any_due (repeated i time m) ≡ false
  unfolding quiet_ticks
  quiet_before i b = lowest_before _ most i b

  pub due_after : quiet_ticks m most < most → any_due (repeated (quiet_ticks m most) time m) ≡ true
  unfolding quiet_ticks
  due_after b =
      ⊎_elim (λ (f : Found _ most (quiet_ticks m most)). f.holds) (λ (l : Lacks _ most (quiet_ticks m most)). absurd (omega (arith, b, l.whole)))
      (lowest_cases (λ i. any_due (repeated i time m)) most)

-- For a caller
module _ (t : Table) (m : Marking) (accepted : check t m ≡ Accepts) (answer : TicksAnswer) (is : answer ≡ quiet_answer t m) where
  told : answer.ticks ≡ quiet_ticks m most_ticks
  unfolding quiet_answer
  told = ap (λ (a : TicksAnswer). a.ticks) is ∙ rw (check_parts t m accepted).0

  passed : (ticks : ℕ) → ticks ≤ answer.ticks → (slept t m ticks ≡ repeated ticks time m) × (slept_caused t m ticks ≡ [])
  passed ticks b =
      let g = good t m (check_parts t m accepted).0 in
      quiet_run t g.table_good m g.marking_good.same_events ticks (λ i l. quiet_before m most_ticks i (omega (arith, l, b, told)))

  -- Sleeping any number of ticks up to it is granted and causes nothing, whatever list is lent; time alone passes
  pub quiet_sleeps : (ticks : ℕ) → ticks ≤ answer.ticks → (list : List ℕ) (sleeps : SleptAnswer) → sleeps ≡ sleep_answer t m ticks (length list)
      → (sleeps.number ≡ 0) × (sleeps.count ≡ 0) × (sleeps.marking ≡ repeated ticks time m) × (sleep_list t m ticks list ≡ list)
  unfolding sleep_answer sleep_list
  quiet_sleeps ticks b list sleeps sleeps-is =
      let p = check_parts t m accepted in
      let q = passed ticks b in
      let none : length (slept_caused t m ticks) ≡ 0 = ap (λ (l : List Entry). length l) q.1 in
      let number = grants t m ticks (length list)
      (record { judged_done = p.0; few = omega (arith, b, told, quiet_few m most_ticks); accepts = p.1; fits = omega (arith, none) }) in (
        ap (λ (a : SleptAnswer). a.number) sleeps-is ∙ number,
        ap (λ (a : SleptAnswer). a.count) sleeps-is ∙ rw number none,
        ap (λ (a : SleptAnswer). a.marking) sleeps-is ∙ rw number q.0,
        rw (number, q.1) refl,
      )

  -- Where it is below the limit, an event is due after sleeping so many
  pub quiet_ends : answer.ticks < most_ticks → (list : List ℕ) (sleeps : SleptAnswer) → sleeps ≡ sleep_answer t m answer.ticks (length list)
      → (due : SetAnswer) → due ≡ due_answer t sleeps.marking → (due.number ≡ 0) × (due.set ≡ 0 → ⊥)
  unfolding due_answer
  quiet_ends b list sleeps sleeps-is due due_is =
      let there = (quiet_sleeps answer.ticks (omega arith) list sleeps sleeps-is).2 in
      let here = there ∙ sym (passed answer.ticks (omega arith)).0 in
      let judged_done = ap (judged t) here ∙ (check_parts t _ (sleep_accepts t m accepted answer.ticks)).0 in
      let is-due = ap any_due there ∙ ap (λ (n : ℕ). any_due (repeated n time m)) told ∙ due_after m most_ticks (rw told at b) in (
        ap (λ (a : SetAnswer). a.number) due_is ∙ judged_done,
        λ none. clash is-due (none_due_yet sleeps.marking (rw judged_done at (sym (ap (λ (a : SetAnswer). a.set) due_is) ∙ none))),
      )

-- A call that changes a marking keeps its unused places: those at or past the event count hold afterwards what they held before. For any
-- table and marking. Assumes nothing.
use Rattle.std.specs.Prelude.{◌≡◌, refl, Bool, true, false, cond, ℕ, ◌≤◌, eqb, leb, ltb, get_or, length}
use Rattle.std.proofs.Common.{◌∙◌, sym, arith, ltb-true, ltb-false}
use mathlib.Core.List.{List, [], ◌∷◌}
use Rattle.std.proofs.Math.ListN.{get_or-eq_default}
use Rattle.rules.specs.declared.Table.{Table}
use Rattle.rules.specs.declared.Record.{Record}
use Rattle.rules.specs.declared.Marking.{Marking}
use Rattle.rules.specs.declared.Step.{Step}
use Rattle.rules.specs.Counting.{each_below}
use Rattle.rules.specs.Numbers.{done}
use Rattle.rules.specs.Holds.{empty_record, with_records}
use Rattle.rules.specs.Effect.{effect_at, effect}
use Rattle.rules.specs.Time.{later, time, plain_tick}
use Rattle.rules.specs.Happen.{happen}
use Rattle.rules.specs.Guard.{order, goes_ahead, taken, taken_all, guarded, guarded_tick}
use Rattle.rules.specs.Sleep.{slept, sleep_answer}
use Rattle.rules.specs.Trace.{last_happen_kind, plain_tick_kind, step_number, step_done, stepped, end_of, run, steps_in, run_bytes}
use Rattle.rules.specs.Unused.{KeepsUnused, AllKeep}
use Rattle.rules.proofs.Laws.Counting.{repeated_keeps, length_each_below, each_below_kept}

-- nothing is changed; one change and then another; one of two, by a test
unchanged : (m : Marking) → KeepsUnused m m
unchanged m = record { kept_length = refl; kept_events = refl; kept_record = λ e b. refl }

and_then : {m n k : Marking} → KeepsUnused m n → KeepsUnused n k → KeepsUnused m k
and_then p q = record {
  kept_length = q.kept_length ∙ p.kept_length;
  kept_events = q.kept_events ∙ p.kept_events;
  kept_record = λ e b. q.kept_record e (rw p.kept_events b) ∙ p.kept_record e b;
}

chosen : (test : Bool) {m n k : Marking} → KeepsUnused m n → KeepsUnused m k → KeepsUnused m (cond test n k)
chosen true p q = p
chosen false p q = q

-- a change of each record below the event count; a place that the list does not have is empty before and after
each_keeps : (m : Marking) (f : ℕ → Record → Record) → KeepsUnused m (with_records m (each_below m.events f m.records))
each_keeps m f = record {
  kept_length = length_each_below m.events f m.records;
  kept_events = refl;
  kept_record = λ e b. at e b (ltb e (length m.records)) refl;
}
  where
    at : (e : ℕ) → m.events ≤ e → (there : Bool) → ltb e (length m.records) ≡ there
        → get_or (each_below m.events f m.records) e empty_record ≡ get_or m.records e empty_record
    at e b true p = each_below_kept m.events f m.records e empty_record (ltb-true e (length m.records) p) b
    at e b false p =
        let past : length m.records ≤ e = ltb-false e (length m.records) p in
        get_or-eq_default (each_below m.events f m.records) empty_record (omega (arith, length_each_below m.events f m.records))
        ∙ sym (get_or-eq_default m.records empty_record past)

time_keeps : (m : Marking) → KeepsUnused m (time m)
unfolding time
time_keeps m = each_keeps m (λ e. later)

module _ (t : Table) where
  effect_keeps : (m : Marking) (e : ℕ) → KeepsUnused m (effect t m e)
  unfolding effect
  effect_keeps m e = each_keeps m (effect_at t e)

  taken_keeps : (m : Marking) (e : ℕ) → KeepsUnused m (taken t m e)
  unfolding taken
  taken_keeps m e = chosen (goes_ahead t m e) (effect_keeps m e) (unchanged m)

  taken_all_keeps : (m : Marking) (es : List ℕ) → KeepsUnused m (taken_all t m es)
  unfolding taken_all
  taken_all_keeps m [] = unchanged m
  taken_all_keeps m (e ∷ es) = and_then (taken_keeps m e) (taken_all_keeps (taken t m e) es)

  guarded_keeps : (m : Marking) → KeepsUnused m (guarded t m)
  unfolding guarded
  guarded_keeps m = and_then (taken_all_keeps m (order t m)) (time_keeps (taken_all t m (order t m)))

  slept_keeps : (m : Marking) (n : ℕ) → KeepsUnused m (slept t m n)
  unfolding slept
  slept_keeps m n = repeated_keeps (guarded t) (KeepsUnused m) (λ k kept. and_then kept (guarded_keeps k)) n m (unchanged m)

  step_keeps : (m : Marking) (s : Step) → KeepsUnused m (stepped t m s)
  unfolding stepped step_done
  step_keeps m s =
      chosen (eqb (step_number t m s) 0)
      (chosen (leb s.kind last_happen_kind) (effect_keeps m s.event) (chosen (eqb s.kind plain_tick_kind) (time_keeps m) (guarded_keeps m)))
      (unchanged m)

  trace_keeps : (m : Marking) (steps : List Step) → KeepsUnused m (end_of t m steps)
  unfolding end_of
  trace_keeps m [] = unchanged m
  trace_keeps m (s ∷ rest) = and_then (step_keeps m s) (trace_keeps (stepped t m s) rest)

-- what a call gives back: the marking after it, or the one handed in
given_back : (number : ℕ) {m after : Marking} → KeepsUnused m after → KeepsUnused m (done number after m)
given_back number {m = m} kept = chosen (eqb number 0) kept (unchanged m)

-- Other calls keep those places
pub kept_places : (t : Table) (m : Marking) → AllKeep t m
unfolding happen plain_tick guarded_tick run run_bytes
kept_places t m = record {
  of_happen = λ e. given_back (happen t m e).number (effect_keeps t m e);
  of_plain_tick = given_back (plain_tick t m).number (time_keeps m);
  of_guarded_tick = given_back (guarded_tick t m).number (guarded_keeps t m);
  of_run = λ steps room. given_back (run t m steps room).number (trace_keeps t m steps);
  of_run_bytes = λ bytes room. given_back (run_bytes t m bytes room).number (trace_keeps t m (steps_in bytes));
}

-- and so does sleeping
pub sleep_keeps_places : (t : Table) (m : Marking) (ticks room : ℕ) → KeepsUnused m (sleep_answer t m ticks room).marking
unfolding sleep_answer
sleep_keeps_places t m ticks room = given_back (sleep_answer t m ticks room).number (slept_keeps t m ticks)

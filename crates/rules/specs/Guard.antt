-- The guarded tick. Refused with 12 exactly when the check rejects. Otherwise the needed set is the due events and, repeatedly, each included
-- inhibitor that blocks a needed event (a condition that never happened, a pending milestone), judged in the marking at the start. Take, again
-- and again, the lowest needed event that is untaken and has no untaken needed inhibitor. It is executed if included at that moment, else
-- skipped. Then one tick passes. The answer gives the executed events in order, their count and the new marking.
use Rattle.std.specs.Prelude.{Bool, not, ◌&&◌, ◌||◌, cond, List, [], ◌∷◌, ◌++◌, ℕ, zero, suc, ◌-◌, ◌^◌, ltb, length, replicate}
use Rattle.rules.specs.declared.Relation.{Relation}
use Rattle.rules.specs.declared.Table.{Table}
use Rattle.rules.specs.declared.Record.{Record}
use Rattle.rules.specs.declared.Marking.{Marking}
use Rattle.rules.specs.Answers.{GuardedAnswer}
use Rattle.rules.specs.Counting.{some, lowest}
use Rattle.rules.specs.Numbers.{done, check_number, check_reason, check_place}
use Rattle.rules.specs.EventSet.{has}
use Rattle.rules.specs.Holds.{most_events, is_condition, is_milestone, relation_of, record_of}
use Rattle.rules.specs.Effect.{effect}
use Rattle.rules.specs.Time.{due_set, time}
use Rattle.rules.specs.Closure.{followed, follows, widened_fully}
use Rattle.rules.specs.Check.{check}

-- an inhibitor that is included and never happened (a condition) or is pending (a milestone), where r is its record
unfoldable pub holds_back : Relation → Record → Bool
holds_back k r = r.included && (is_condition k && not r.happened || is_milestone k && r.pending)

unfoldable pub needed : Table → Marking → ℕ
needed t m =
    widened_fully t (λ k. followed (relation_of t k) && holds_back (relation_of t k) (record_of m (relation_of t k).right)) (due_set m)

-- of the untaken needed events: one that has no untaken needed inhibitor
unfoldable pub ready : Table → ℕ → ℕ → Bool
ready t untaken e = has untaken e && not (some t.events (λ f. follows t e f && has untaken f))

-- the order of taking, at most n events
unfoldable pub order_of : Table → ℕ → ℕ → List ℕ
order_of t zero untaken = []
order_of t (suc n) untaken =
    let e = lowest t.events (ready t untaken) in
    let then = order_of t n (untaken - 2 ^ e) in
    cond (ltb e t.events) (e ∷ then) []

abbrev pub order : Table → Marking → List ℕ
order t m = order_of t t.events (needed t m)

-- an event goes ahead at its turn, where m is the marking at that moment: it is included
abbrev pub goes_ahead : Table → Marking → ℕ → Bool
goes_ahead t m e = (record_of m e).included

-- it is executed if it goes ahead, else skipped
unfoldable pub taken : Table → Marking → ℕ → Marking
taken t m e = cond (goes_ahead t m e) (effect t m e) m

unfoldable pub taken_all : Table → Marking → List ℕ → Marking
taken_all t m [] = m
taken_all t m (e ∷ rest) = taken_all t (taken t m e) rest

-- the executed events, in order
unfoldable pub executed_of : Table → Marking → List ℕ → List ℕ
executed_of t m [] = []
executed_of t m (e ∷ rest) = let then = executed_of t (taken t m e) rest in cond (goes_ahead t m e) (e ∷ then) then

unfoldable pub caused : Table → Marking → List ℕ
caused t m = executed_of t m (order t m)

unfoldable pub guarded : Table → Marking → Marking
guarded t m = time (taken_all t m (order t m))

-- places past the caused events are 0
unfoldable pub guarded_tick : Table → Marking → GuardedAnswer
guarded_tick t m =
    let checked = check t m in
    let number = check_number checked in
    let events = done number (caused t m) [] in
    record {
      number = number;
      reason = check_reason checked;
      place = check_place checked;
      caused = events ++ replicate (most_events - length events) 0;
      count = length events;
      marking = done number (guarded t m) m;
    }

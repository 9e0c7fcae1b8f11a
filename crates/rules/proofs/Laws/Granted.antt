-- What a call whose numbers so far are 'done' has been told: counts, events and relations that exist, ages and times within the limit.
-- Assumes nothing.
use Rattle.std.specs.Prelude.{◌≡◌, Bool, true, false, not, ◌&&◌, cond, ℕ, ◌<◌, ◌≤◌, eqb, leb, ltb}
use Rattle.std.proofs.Common.{◌∙◌, sym, arith, ltb-true, leb-true, eqb-true}
use Rattle.rules.specs.declared.Relation.{Relation}
use Rattle.rules.specs.declared.Table.{Table}
use Rattle.rules.specs.declared.Record.{Record}
use Rattle.rules.specs.declared.Marking.{Marking}
use Rattle.rules.specs.Numbers.{◌else◌}
use Rattle.rules.specs.Holds.{limit, is_condition, is_response, relation_of, record_of}
use Rattle.rules.specs.Judge.{judged, time_fits, state_fits, record_fits, event_number}
use Rattle.rules.proofs.Laws.Tests.{both, not_false}
use Rattle.rules.proofs.Laws.Numbers.{if_done, both_done, else_refused}
use Rattle.rules.specs.Shapes.Good.{GoodTable, Good}
use Rattle.rules.proofs.Laws.Judge.{good}
use Rattle.rules.proofs.Laws.Fit.{fits_parts}

-- a number that is not 'done' stands, whatever would be asked next
pub stands : {n a : ℕ} (next : ℕ) → n ≡ a → (n ≡ 0 → ⊥) → n ≡ (a else next)
stands next p h = p ∙ sym (else_refused next (λ z. h (p ∙ z)))

-- an event that exists fits a word
pub event_fits : {t : Table} {m : Marking} {e : ℕ} → Good t m → e < t.events → e < 64
event_fits g b = omega (arith, g.table_good.few_events)

-- the event asked about exists
pub event_exists : (t : Table) (e : ℕ) → event_number t e ≡ 0 → e < t.events
event_exists t e h = ltb-true e t.events (not_false (ltb e t.events) (if_done 7 (not (ltb e t.events)) h))

pub event_told : (t : Table) (m : Marking) (e : ℕ) → (judged t m else event_number t e) ≡ 0 → Good t m × (e < 64)
event_told t m e h =
    let p = both_done (judged t m) (event_number t e) h in
    let g = good t m p.0 in
    (g, event_fits g (event_exists t e p.1))

-- an age, and a time, are at most the limit
pub age_fits : (r : Record) → record_fits r ≡ true → r.age ≤ limit
unfolding state_fits
age_fits r h =
    go r.happened (leb-true r.age (cond r.happened limit 0) (both (leb r.age (cond r.happened limit 0)) _ (fits_parts r h).0).0)
  where
    go : (b : Bool) → r.age ≤ cond b limit 0 → r.age ≤ limit
    go true l = l
    go false l = omega arith

pub time_fits_lem : (k : Relation) → time_fits k ≡ true → k.time ≤ limit
unfolding time_fits
time_fits_lem k h = go (is_condition k) (is_response k) k.bounded h
  where
    go : (condition response bounded : Bool)
        → cond condition (bounded && leb k.time limit)
        (cond response (cond bounded (leb 1 k.time && leb k.time limit) (eqb k.time 0))
        (not bounded && eqb k.time 0)) ≡ true
        → k.time ≤ limit
    go true response bounded h = leb-true k.time limit (both bounded (leb k.time limit) h).1
    go false true true h = leb-true k.time limit (both (leb 1 k.time) (leb k.time limit) h).1
    go false true false h = omega (arith, eqb-true k.time 0 h)
    go false false bounded h = omega (arith, eqb-true k.time 0 (both (not bounded) (eqb k.time 0) h).1)

-- the right event of a relation that is in use
pub right_told : {t : Table} → GoodTable t → (k : ℕ) → k < t.count → (relation_of t k).right < 64
right_told g k used = omega (arith, (g.relations_good k used).right_exists, g.few_events)

-- the age and the time that its margin is made of
pub margin_told_lem : {t : Table} {m : Marking} → Good t m → (k : ℕ) → k < t.count
    → ((record_of m (relation_of t k).right).age ≤ limit) × ((relation_of t k).time ≤ limit)
margin_told_lem g k used =
    let here = g.table_good.relations_good k used in
    (age_fits _ (g.marking_good.records_fit _ here.right_exists), time_fits_lem _ here.fits)

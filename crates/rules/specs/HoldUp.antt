-- Hold-up of an event: excluded; or the lowest-numbered relation that blocks it; or enabled, with the lowest-numbered relation that would block
-- it if the relation's right event were included, or none.
use Rattle.std.specs.Prelude.{Bool, not, ◌&&◌, cond, ℕ, eqb, ltb}
use Rattle.rules.specs.declared.Table.{Table}
use Rattle.rules.specs.declared.Marking.{Marking}
use Rattle.rules.specs.HoldUpAnswer.{HoldUpAnswer, Refused, Enabled, EnabledUnless, Excluded, Blocked}
use Rattle.rules.specs.Answers.{ToldHoldUp}
use Rattle.rules.specs.Counting.{some, lowest}
use Rattle.rules.specs.Numbers.{◌else◌, done}
use Rattle.rules.specs.Holds.{relation_of, record_of}
use Rattle.rules.specs.Judge.{judged, event_number}
use Rattle.rules.specs.Enabled.{stops, blocks}
use Rattle.rules.specs.Including.{as_included}

-- relation k would block e if its right event were included
unfoldable pub would_block : Table → Marking → ℕ → ℕ → Bool
would_block t m e k = eqb (relation_of t k).left e && stops (relation_of t k) (as_included (record_of m (relation_of t k).right))

unfoldable pub hold_up_of : Table → Marking → ℕ → HoldUpAnswer
hold_up_of t m e =
    let first = lowest t.count (blocks t m e) in
    let unless = lowest t.count (would_block t m e) in
    cond (not (record_of m e).included) Excluded
    (cond (ltb first t.count) (Blocked first)
    (cond (ltb unless t.count) (EnabledUnless unless) Enabled))

unfoldable pub hold_up : Table → Marking → ℕ → HoldUpAnswer
hold_up t m e = let number = judged t m else event_number t e in done number (hold_up_of t m e) (Refused number)

-- the same in numbers: 0 enabled, 1 excluded, 2 blocked by a relation, 3 enabled unless the right event of a relation returns
unfoldable pub told_hold_up : Table → Marking → ℕ → ToldHoldUp
told_hold_up t m e =
    let number = judged t m else event_number t e in
    let enabled : ℕ = cond (some t.count (would_block t m e)) 3 0 in
    let kind : ℕ = done number (cond (not (record_of m e).included) 1 (cond (some t.count (blocks t m e)) 2 enabled)) 0 in
    let first = lowest t.count (blocks t m e) in
    let unless = lowest t.count (would_block t m e) in
    record { number = number; kind = kind; relation = cond (eqb kind 2) first (cond (eqb kind 3) unless 0) }

-- The static check. It rejects, by the lowest reason that applies, at the lowest place. Otherwise it accepts.
use Rattle.std.specs.Prelude.{Bool, not, ◌&&◌, ◌||◌, cond, ℕ, eqb, ltb}
use Rattle.rules.specs.declared.Table.{Table}
use Rattle.rules.specs.declared.Marking.{Marking}
use Rattle.rules.specs.CheckAnswer.{CheckAnswer, Refused, Accepts, Rejects}
use Rattle.rules.specs.Answers.{ToldCheck}
use Rattle.rules.specs.Counting.{some, lowest}
use Rattle.rules.specs.Numbers.{◌if◌, ◌else◌, done}
use Rattle.rules.specs.EventSet.{has, set_of}
use Rattle.rules.specs.Holds.{is_condition, is_response, is_inclusion, is_exclusion, is_milestone, is_controllable, is_causable, relation_of, record_of}
use Rattle.rules.specs.Judge.{judged}
use Rattle.rules.specs.Closure.{inhibits, followed, follows, widened_fully, closure}

-- 1. an uncontrollable event is excluded in the marking, is right of an exclusion, or is left of a condition or milestone (event)
unfoldable pub unreportable : Table → Marking → ℕ → Bool
unreportable t m e =
    not (is_controllable t e)
    && (not (record_of m e).included
    || some t.count (λ k. is_exclusion (relation_of t k) && eqb (relation_of t k).right e || inhibits (relation_of t k) && eqb (relation_of t k).left e))

-- 2. a closure event is not causable (event)
unfoldable pub uncausable : Table → ℕ → ℕ → Bool
uncausable t closed e = has closed e && not (is_causable t e)

-- 3. a condition with left in the closure has time above 0 (relation)
unfoldable pub waiting : Table → ℕ → ℕ → Bool
waiting t closed k = is_condition (relation_of t k) && has closed (relation_of t k).left && ltb 0 (relation_of t k).time

-- 4. inhibition has a cycle within the closure (an event on one, an event inhibiting itself is one). The events that e waits for, along
-- a path, lie in the closure if e does
unfoldable pub awaited : Table → ℕ → ℕ
awaited t e = widened_fully t (λ k. followed (relation_of t k)) (set_of t.events (follows t e))

unfoldable pub on_cycle : Table → ℕ → ℕ → Bool
on_cycle t closed e = has closed e && has (awaited t e) e

-- 5. a closure event has as response an event that is a milestone of a closure event (relation)
unfoldable pub reopening : Table → ℕ → ℕ → Bool
reopening t closed k =
    is_response (relation_of t k) && has closed (relation_of t k).left
    && some t.count (λ j. is_milestone (relation_of t j) && has closed (relation_of t j).left && eqb (relation_of t j).right (relation_of t k).right)

-- 6. a closure event includes another closure event (relation; itself is allowed)
unfoldable pub reviving : Table → ℕ → ℕ → Bool
reviving t closed k =
    is_inclusion (relation_of t k) && has closed (relation_of t k).left && has closed (relation_of t k).right
    && not (eqb (relation_of t k).left (relation_of t k).right)

-- a reason at its lowest place below n, else what the next reasons say
abbrev pub reason : ℕ → ℕ → (ℕ → Bool) → CheckAnswer → CheckAnswer
reason number n applies next = let place = lowest n applies in cond (ltb place n) (Rejects number place) next

unfoldable pub verdict : Table → Marking → CheckAnswer
verdict t m =
    let closed = closure t m in
    reason 1 t.events (unreportable t m)
    (reason 2 t.events (uncausable t closed)
    (reason 3 t.count (waiting t closed)
    (reason 4 t.events (on_cycle t closed)
    (reason 5 t.count (reopening t closed)
    (reason 6 t.count (reviving t closed)
    Accepts)))))

unfoldable pub check : Table → Marking → CheckAnswer
check t m = let number = judged t m in done number (verdict t m) (Refused number)

-- the same in numbers. The lowest reason that applies, 0 for none
unfoldable pub reason_of : Table → Marking → ℕ
reason_of t m =
    let closed = closure t m in
    1 if some t.events (unreportable t m)
    else 2 if some t.events (uncausable t closed)
    else 3 if some t.count (waiting t closed)
    else 4 if some t.events (on_cycle t closed)
    else 5 if some t.count (reopening t closed)
    else 6 if some t.count (reviving t closed)

-- the lowest place of a reason
unfoldable pub place_of : Table → Marking → ℕ → ℕ
place_of t m reason =
    let closed = closure t m in
    cond (eqb reason 1) (lowest t.events (unreportable t m))
    (cond (eqb reason 2) (lowest t.events (uncausable t closed))
    (cond (eqb reason 3) (lowest t.count (waiting t closed))
    (cond (eqb reason 4) (lowest t.events (on_cycle t closed))
    (cond (eqb reason 5) (lowest t.count (reopening t closed))
    (cond (eqb reason 6) (lowest t.count (reviving t closed))
    0)))))

-- 12 with reason and place
unfoldable pub told_check : Table → Marking → ToldCheck
told_check t m =
    let number = judged t m in
    let reason = done number (reason_of t m) 0 in
    record { number = number else 12 if not (eqb reason 0); reason = reason; place = place_of t m reason }

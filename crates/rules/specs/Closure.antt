-- Busy events: bounded pending in the marking, included or not, or right of a bounded response. Inhibitors of e: right events of its
-- conditions and milestones. The closure is the busy events and, repeatedly, their inhibitors.
use Rattle.std.specs.Prelude.{Bool, ◌&&◌, ◌||◌, ℕ, eqb}
use Rattle.rules.specs.declared.Relation.{Relation}
use Rattle.rules.specs.declared.Table.{Table}
use Rattle.rules.specs.declared.Marking.{Marking}
use Rattle.rules.specs.Answers.{ClosureAnswer}
use Rattle.rules.specs.Counting.{some, repeated}
use Rattle.rules.specs.Numbers.{done}
use Rattle.rules.specs.EventSet.{has, set_of, size_of}
use Rattle.rules.specs.Holds.{is_condition, is_response, is_milestone, relation_of, record_of}
use Rattle.rules.specs.Judge.{judged}
use Rattle.rules.specs.Effect.{leads}

unfoldable pub busy : Table → Marking → ℕ → Bool
busy t m x =
    (record_of m x).pending && (record_of m x).bounded
    || some t.count (λ k. is_response (relation_of t k) && (relation_of t k).bounded && eqb (relation_of t k).right x)

-- a relation by which its right event is an inhibitor of its left: ALL inhibitors, conditions of any time and milestones
abbrev pub inhibits : Relation → Bool
inhibits k = is_condition k || is_milestone k

-- a relation that is followed to an inhibitor, by the closure, by the needed set and by the order of taking: today, each that inhibits
abbrev pub followed : Relation → Bool
followed k = inhibits k

-- f is an inhibitor of e that is followed
unfoldable pub follows : Table → ℕ → ℕ → Bool
follows t e f = some t.count (λ k. followed (relation_of t k) && leads (relation_of t k) e f)

-- a set, and the right events of those relations, among the ones to follow, that have their left in the set
unfoldable pub widened : Table → (ℕ → Bool) → ℕ → ℕ
widened t along set =
    set_of t.events
    (λ f. has set f || some t.count (λ k. along k && has set (relation_of t k).left && eqb (relation_of t k).right f))

-- again and again: as often as there are events, after which nothing new can come
unfoldable pub widened_fully : Table → (ℕ → Bool) → ℕ → ℕ
widened_fully t along set = repeated t.events (widened t along) set

unfoldable pub closure : Table → Marking → ℕ
closure t m = widened_fully t (λ k. followed (relation_of t k)) (set_of t.events (busy t m))

-- also when the check rejects; with its size
unfoldable pub closure_answer : Table → Marking → ClosureAnswer
closure_answer t m =
    let number = judged t m in
    record { number = number; set = done number (closure t m) 0; size = done number (size_of (closure t m)) 0 }

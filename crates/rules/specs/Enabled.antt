-- Enabled. The event is included; for each condition with it as left, if right is included then right has happened and its age is at least
-- the time; for each milestone with it as left, if right is included then right is not pending. A relation to itself reads its own state.
use Rattle.std.specs.Prelude.{Bool, false, not, ◌&&◌, ◌||◌, ℕ, eqb, leb}
use Rattle.rules.specs.declared.Relation.{Relation}
use Rattle.rules.specs.declared.Table.{Table}
use Rattle.rules.specs.declared.Record.{Record}
use Rattle.rules.specs.declared.Marking.{Marking}
use Rattle.rules.specs.Answers.{EnabledAnswer}
use Rattle.rules.specs.Counting.{some}
use Rattle.rules.specs.Numbers.{◌else◌, done}
use Rattle.rules.specs.Holds.{is_condition, is_milestone, relation_of, record_of}
use Rattle.rules.specs.Judge.{judged, event_number}

-- a relation with e as left stops e, where r is the record of its right event
unfoldable pub stops : Relation → Record → Bool
stops k r = r.included && (is_condition k && not (r.happened && leb k.time r.age) || is_milestone k && r.pending)

-- relation k blocks e
unfoldable pub blocks : Table → Marking → ℕ → ℕ → Bool
blocks t m e k = eqb (relation_of t k).left e && stops (relation_of t k) (record_of m (relation_of t k).right)

unfoldable pub is_enabled : Table → Marking → ℕ → Bool
is_enabled t m e = (record_of m e).included && not (some t.count (blocks t m e))

unfoldable pub enabled_answer : Table → Marking → ℕ → EnabledAnswer
enabled_answer t m e =
    let number = judged t m else event_number t e in
    record { number = number; enabled = done number (is_enabled t m e) false }

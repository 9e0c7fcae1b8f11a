-- Margin of a condition: not a condition; ignored (right excluded), with the rest of the answer as if right were included; never (right
-- included, not happened); otherwise age minus time, negative while the condition still waits.
use Rattle.std.specs.Prelude.{not, ◌||◌, cond, ℕ, eqb, ltb, pos, ◌-ℤ◌}
use Rattle.rules.specs.declared.Relation.{Relation}
use Rattle.rules.specs.declared.Table.{Table}
use Rattle.rules.specs.declared.Record.{Record}
use Rattle.rules.specs.declared.Marking.{Marking}
use Rattle.rules.specs.Rest.{Rest, Never as never, By as by}
use Rattle.rules.specs.MarginAnswer.{MarginAnswer, Refused, NotACondition, Ignored, Never, By}
use Rattle.rules.specs.Answers.{ToldMargin}
use Rattle.rules.specs.Numbers.{◌if◌, ◌else◌, done}
use Rattle.rules.specs.Holds.{is_condition, relation_of, record_of}
use Rattle.rules.specs.Judge.{judged}

-- of a condition k, where r is the record of its right event, as if that were included
unfoldable pub rest_of : Relation → Record → Rest
rest_of k r = cond (not r.happened) never (by (pos r.age -ℤ pos k.time))

-- the same where it is included
abbrev pub outright : Rest → MarginAnswer
outright never = Never
outright (by ticks) = By ticks

-- of relation k, where r is the record of its right event
unfoldable pub margin_of : Relation → Record → MarginAnswer
margin_of k r =
    cond (not (is_condition k)) NotACondition
    (cond (not r.included) (Ignored (rest_of k r))
    (outright (rest_of k r)))

unfoldable pub margin : Table → Marking → ℕ → MarginAnswer
margin t m k =
    let number = judged t m else 8 if not (ltb k t.count) in
    done number (margin_of (relation_of t k) (record_of m (relation_of t k).right)) (Refused number)

-- the same in numbers: 0 not a condition, 1 ignored and else never, 2 never, 3 by so many ticks, 4 ignored and else by so many ticks
unfoldable pub told_margin : Table → Marking → ℕ → ToldMargin
told_margin t m k =
    let number = judged t m else 8 if not (ltb k t.count) in
    let relation = relation_of t k in
    let right = record_of m relation.right in
    let ignored : ℕ = cond (not right.happened) 1 4 in
    let kind : ℕ = done number (cond (not (is_condition relation)) 0 (cond (not right.included) ignored (cond (not right.happened) 2 3))) 0 in
    record { number = number; kind = kind; ticks = cond (eqb kind 3 || eqb kind 4) (pos right.age -ℤ pos relation.time) (pos 0) }

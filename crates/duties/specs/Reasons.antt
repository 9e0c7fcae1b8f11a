-- The reasons of the static check that lie with a relation, as they are looked for in one pass.
use Rattle.std.specs.Prelude.{◌≡◌, Bool, true, not, ◌&&◌, cond, List, ℕ, Result, Ok, Err, eqb, ltb}
use Rattle.rules.specs.declared.Relation.{Relation}
use Rattle.rules.specs.declared.Table.{Table}
use Rattle.rules.specs.declared.verdict.Rejection.{Rejection}
use Rattle.rules.specs.CheckAnswer.{CheckAnswer, Accepts, Rejects}
use Rattle.rules.specs.Results.{reason_number}
use Rattle.rules.specs.Counting.{some, lowest}
use Rattle.rules.specs.EventSet.{has}
use Rattle.rules.specs.Holds.{is_condition, is_inclusion, relation_of}
use Rattle.rules.specs.Check.{uncausable, waiting, on_cycle, reopening, reviving, reason}
use Rattle.duties.specs.declared.reasons.Finding.{Finding}
use Rattle.duties.specs.declared.reasons.Finding.TheVariants.{Event}
use Rattle.duties.specs.Inhibition.{led_to}

-- a word has the events to which a set leads by the rows of a sort
abbrev pub Led : List ℕ → ℕ → ℕ → ℕ → Type 0
Led rows s set w = (x : ℕ) → has w x ≡ some 64 (led_to rows s set x)

-- a word has the events to which the relations of a test lead
abbrev pub Ends : Table → (ℕ → Bool) → ℕ → Type 0
Ends t f w = (x : ℕ) → has w x ≡ some t.count (λ k. f k && eqb (relation_of t k).right x)

-- a relation that a reason can lie with: a condition if it has a time, an inclusion if it is of another event, and each of another kind
abbrev pub matters : Relation → Bool
matters k = cond (is_condition k) (ltb 0 k.time) (cond (is_inclusion k) (not (eqb k.left k.right)) true)

-- one of a kind of a set of kinds, from an event of a set to one of a set
abbrev pub applies : ℕ → ℕ → ℕ → Relation → Bool
applies kinds lefts rights k = has kinds k.kind && (has lefts k.left && (has rights k.right && matters k))

abbrev pub is_reason : Table → ℕ → ℕ → ℕ → ℕ → Bool
is_reason t kinds lefts rights k = applies kinds lefts rights (relation_of t k)

unfoldable pub first_reason : Table → ℕ → ℕ → ℕ → ℕ
first_reason t kinds lefts rights = lowest t.count (is_reason t kinds lefts rights)

-- the rejection that a finding comes to, with the relation looked for
abbrev pub rejection_by : Table → Finding → Rejection
rejection_by t (Event reason place) = record { reason = reason; place = place }
rejection_by t (Finding.Relation reason sought) = record { reason = reason; place = first_reason t sought.kinds sought.lefts sought.rights }

-- the verdict that what was found comes to
module _ {A : Type 0} where
  abbrev pub verdict_by : Table → Result A Finding → CheckAnswer
  verdict_by t (Ok _) = Accepts
  verdict_by t (Err finding) = let rejection = rejection_by t finding in Rejects (reason_number rejection.reason) rejection.place

-- what the reasons after the first say, of a closure
unfoldable pub verdict_of : Table → ℕ → CheckAnswer
verdict_of t closed =
    reason 2 t.events (uncausable t closed)
    (reason 3 t.count (waiting t closed)
    (reason 4 t.events (on_cycle t closed)
    (reason 5 t.count (reopening t closed)
    (reason 6 t.count (reviving t closed)
    Accepts))))

-- Effect of e. First e becomes happened with age 0 and not pending, and its count grows by 1, held at its limit. Then, for each target: excluded
-- if e excludes it, included if e includes it, inclusion winning over exclusion. A target of responses gets the smallest of their deadlines
-- ("eventually" is largest), replacing what it had; in a firm table the smaller of that and what it then has.
use Rattle.std.specs.Prelude.{Bool, true, false, ◌&&◌, cond, ℕ, zero, suc, ◌+◌, min, eqb}
use Rattle.rules.specs.declared.Relation.{Relation}
use Rattle.rules.specs.declared.Table.{Table}
use Rattle.rules.specs.declared.Record.{Record}
use Rattle.rules.specs.declared.Marking.{Marking}
use Rattle.rules.specs.Counting.{some, each_below}
use Rattle.rules.specs.Holds.{count_limit, is_response, is_inclusion, is_exclusion, relation_of, with_records}

-- when an event is to be done: it is not pending, or eventually, or within so many ticks
pub data Deadline : Type 0 where
  none : Deadline
  eventually : Deadline
  within : ℕ → Deadline

-- the smaller of two; "eventually" is largest
abbrev pub smaller : Deadline → Deadline → Deadline
smaller none other = other
smaller eventually none = eventually
smaller eventually eventually = eventually
smaller eventually (within d) = within d
smaller (within c) none = within c
smaller (within c) eventually = within c
smaller (within c) (within d) = within (min c d)

-- the deadline of a record, and the record with another
abbrev pub deadline_of : Record → Deadline
deadline_of r = cond r.pending (cond r.bounded (within r.deadline) eventually) none

abbrev pub is_pending : Deadline → Bool
is_pending none = false
is_pending eventually = true
is_pending (within d) = true

abbrev pub is_bounded : Deadline → Bool
is_bounded none = false
is_bounded eventually = false
is_bounded (within d) = true

abbrev pub ticks_of : Deadline → ℕ
ticks_of none = 0
ticks_of eventually = 0
ticks_of (within d) = d

unfoldable pub with_deadline : Record → Deadline → Record
with_deadline r d = record {
  age = r.age;
  deadline = ticks_of d;
  happened = r.happened;
  included = r.included;
  pending = is_pending d;
  bounded = is_bounded d;
  count = r.count;
}

-- how a response meets an old deadline: in a firm table it gives the smaller of the two, else the new one
abbrev pub meets : Bool → Deadline → Deadline → Deadline
meets firm old new = cond firm (smaller old new) new

-- relation k leads from e to x
abbrev pub leads : Relation → ℕ → ℕ → Bool
leads k e x = eqb k.left e && eqb k.right x

-- e excludes x; e includes x
unfoldable pub excludes : Table → ℕ → ℕ → Bool
excludes t e x = some t.count (λ k. is_exclusion (relation_of t k) && leads (relation_of t k) e x)

unfoldable pub includes : Table → ℕ → ℕ → Bool
includes t e x = some t.count (λ k. is_inclusion (relation_of t k) && leads (relation_of t k) e x)

-- the deadline that relation k, from e, gives x
unfoldable pub given : Relation → ℕ → ℕ → Deadline
given k e x = cond (is_response k && leads k e x) (cond k.bounded (within k.time) eventually) none

-- the smallest that the first n relations give
unfoldable pub smallest : Table → ℕ → ℕ → ℕ → Deadline
smallest t e x zero = none
smallest t e x (suc n) = smaller (smallest t e x n) (given (relation_of t n) e x)

-- the deadline that e's responses give x; none where it is no target of responses
abbrev pub response : Table → ℕ → ℕ → Deadline
response t e x = smallest t e x t.count

-- first e itself
unfoldable pub executed : Record → Record
executed r = record {
  age = 0;
  deadline = 0;
  happened = true;
  included = r.included;
  pending = false;
  bounded = false;
  count = min (r.count + 1) count_limit;
}

-- then each target's inclusion
unfoldable pub with_inclusion : Table → ℕ → ℕ → Record → Record
with_inclusion t e x r = record {
  age = r.age;
  deadline = r.deadline;
  happened = r.happened;
  included = cond (includes t e x) true (cond (excludes t e x) false r.included);
  pending = r.pending;
  bounded = r.bounded;
  count = r.count;
}

-- then each target's deadline
abbrev pub responded : Bool → Deadline → Record → Record
responded firm new r = cond (is_pending new) (with_deadline r (meets firm (deadline_of r) new)) r

-- what the effect of e makes of the record of x
unfoldable pub effect_at : Table → ℕ → ℕ → Record → Record
effect_at t e x r = responded t.firm (response t e x) (with_inclusion t e x (cond (eqb x e) (executed r) r))

unfoldable pub effect : Table → Marking → ℕ → Marking
effect t m e = with_records m (each_below m.events (effect_at t e) m.records)

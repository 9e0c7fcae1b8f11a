-- A duty of an event, what settles it, and that it is met in time; and which of two deadlines is no later than the other.
use Rattle.std.specs.Prelude.{◌≡◌, Bool, true, false, List, ◌∷◌, ◌++◌, ℕ, ◌≤◌, leb}
use Rattle.rules.specs.declared.Table.{Table}
use Rattle.rules.specs.declared.Marking.{Marking}
use Rattle.rules.specs.Holds.{record_of}
use Rattle.rules.specs.Effect.{Deadline, none, eventually, within, is_pending, response, effect}
use Rattle.rules.specs.History.{Act, executes, after, passes_in}

-- one deadline is no later than another; "eventually" is latest, and where nothing is to be done there is none
abbrev pub no_later : Deadline → Deadline → Bool
no_later none old = false
no_later eventually none = false
no_later eventually eventually = true
no_later eventually (within d) = false
no_later (within c) none = false
no_later (within c) eventually = true
no_later (within c) (within d) = leb c d

-- event x is included and is to be done within d ticks
pub record Duty (m : Marking) (x d : ℕ) : Type 0 where
  pub included : (record_of m x).included ≡ true
  pub pending : (record_of m x).pending ≡ true
  pub bounded : (record_of m x).bounded ≡ true
  pub within : (record_of m x).deadline ≤ d

-- the execution of e at m ends the duty of x: x is executed, or is left excluded
pub data Ends (t : Table) (x : ℕ) (m : Marking) (e : ℕ) : Type 0 where
  executed : x ≡ e → Ends t x m e
  excluded : (record_of (effect t m e) x).included ≡ false → Ends t x m e

-- and settles the deadline that x has: it ends the duty or, in a table that is not firm, gives x a new deadline (any response to it, "eventually"
-- too)
pub data Settles (t : Table) (x : ℕ) (m : Marking) (e : ℕ) : Type 0 where
  ended : Ends t x m e → Settles t x m e
  given_new : t.firm ≡ false → is_pending (response t e x) ≡ true → Settles t x m e

-- of some acts from m, one is an execution that settles a deadline, and no more than d passes of time come before it
pub record Met (t : Table) (Settled : Marking → ℕ → Type 0) (m : Marking) (d : ℕ) (acts : List Act) : Type 0 where
  pub before : List Act
  pub event : ℕ
  pub behind : List Act
  pub among : acts ≡ before ++ (executes event ∷ behind)
  pub in_time : passes_in before ≤ d
  pub settles : Settled (after t m before) event

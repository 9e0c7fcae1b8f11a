-- What the calls answer, in the rules' numbers. A `number` is 0 for done, else the number given for refusal. `Results` reads what a call gives back
-- as such an answer.
use Rattle.std.specs.Prelude.{Bool, List, ℕ, ℤ}
use Rattle.rules.specs.declared.Table.{Table}
use Rattle.rules.specs.declared.Marking.{Marking}

pub record TableAnswer : Type 0 where
  pub table : Table
  pub number : ℕ

pub record MarkingAnswer : Type 0 where
  pub number : ℕ
  pub marking : Marking

pub record EnabledAnswer : Type 0 where
  pub number : ℕ
  pub enabled : Bool

pub record SetAnswer : Type 0 where
  pub number : ℕ
  pub set : ℕ

-- a set, and how many events it holds
pub record ClosureAnswer : Type 0 where
  pub number : ℕ
  pub set : ℕ
  pub size : ℕ

-- how many relations stand in an event's way; the lent list names them
pub record ChainAnswer : Type 0 where
  pub number : ℕ
  pub count : ℕ

-- the answers that have cases, told in numbers: what each case is in these stands in `Numbers`
pub record ToldMargin : Type 0 where
  pub number : ℕ
  pub kind : ℕ
  pub ticks : ℤ

pub record ToldHoldUp : Type 0 where
  pub number : ℕ
  pub kind : ℕ
  pub relation : ℕ

pub record ToldCheck : Type 0 where
  pub number : ℕ
  pub reason : ℕ
  pub place : ℕ

-- the events that a guarded tick caused are the first `count` of `caused`, in order; places past them are 0
pub record GuardedAnswer : Type 0 where
  pub number : ℕ
  pub reason : ℕ
  pub place : ℕ
  pub caused : List ℕ
  pub count : ℕ
  pub marking : Marking

-- how many events were caused while ticks were slept through; the lent list names them
pub record SleptAnswer : Type 0 where
  pub number : ℕ
  pub reason : ℕ
  pub place : ℕ
  pub count : ℕ
  pub marking : Marking

-- how many ticks can pass before one finds an event due
pub record TicksAnswer : Type 0 where
  pub number : ℕ
  pub ticks : ℕ

-- the first `length` bytes of the preferred list, or of the fallback
pub record RemedyAnswer : Type 0 where
  pub number : ℕ
  pub fallback : Bool
  pub length : ℕ

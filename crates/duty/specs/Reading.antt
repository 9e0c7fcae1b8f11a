-- What is asked of a table image and a marking image, as the code holds it; how a refusal is handed on, and what a call of a rule answers.
use Rattle.std.specs.Prelude.{◌≡◌, List, ℕ, Result, Err}
use Rattle.std.specs.Fn.{Once}
use denote.Ref.{MutBor}
use Rattle.rules.specs.declared.Table.{Table}
use Rattle.rules.specs.declared.Marking.{Marking}
use Rattle.rules.specs.declared.refusal.Refusal.{Refusal}
use Rattle.rules.specs.Results.{refusal_number}
use Rattle.duty.specs.declared.images.Images.{Images}

-- an error that is made of the refusal with this number
pub record Refuses {A E : Type 0} (given : Refusal → E → Type 0) (number : ℕ) (result : Result A E) : Type 0 where
  pub refusal : Refusal
  pub numbered : refusal_number refusal ≡ number
  pub error : E
  pub made : given refusal error
  pub is : result ≡ Err error

-- a call at a table and a marking that are lent may give r
pub record Returns {F R : Type 0} (g : Once F (Images × Unit {0}) R) (f : F) (t : Table) (m : Marking) (r : R) : Type 0 where
  pub shown : Images
  pub table : shown.table.now ≡ t
  pub marking : shown.marking.now ≡ m
  pub met : g.post f (shown, tt) r

-- a call at these and at a lent list may give r, and leave that list
pub record ReturnsLent {F R T : Type 0}
    (g : Once F (Images × (MutBor (List T) × Unit {0})) (R × (MutBor (List T) × Unit {0}))) (f : F) (t : Table) (m : Marking) (before : List T) (r : R)
    (after : List T) : Type 0 where
  pub shown : Images
  pub table : shown.table.now ≡ t
  pub marking : shown.marking.now ≡ m
  pub lent : MutBor (List T)
  pub lends : lent.now ≡ before
  pub left : MutBor (List T)
  pub met : g.post f (shown, (lent, tt)) (r, (left, tt))
  pub leaves : left.now ≡ after

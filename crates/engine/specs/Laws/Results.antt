-- What a call answers that is refused, or that is not: its result, read as the rule's answer. Assumes nothing.
use Rattle.std.specs.Prelude.{◌≡◌, true}
use Rattle.std.proofs.Math.Path.{refl}
use Rattle.std.proofs.Common.{ne_eqb, ◌∙◌}
use Prim.Native.Nat.{ℕ}
use Rattle.rules.specs.declared.refusal.Refusal.{Refusal}
use Rattle.rules.specs.Results.{refusal_number}
use Rattle.rules.specs.Numbers.{◌else◌, done}
use Rattle.rules.specs.Given.{given, EveryCall}
use Rattle.rules.proofs.Laws.Never.{every_call}
use Rattle.rules.proofs.Laws.Numbers.{else_refused}
use Rattle.rules.proofs.Laws.Results.{refused_number}

-- each number that a call gives is one of those that may be given
pub all_given : EveryCall (λ n. given n ≡ true)
all_given = every_call (λ n. given n ≡ true) (λ n g. g)

module _ {A : Type 0} where
  -- in a refusal what stands for it is answered
  pub refused_done : (refusal : Refusal) {number : ℕ} → refusal_number refusal ≡ number → (a refused : A) → done number a refused ≡ refused
  refused_done refusal e a refused = rw (← e, ne_eqb (refusal_number refusal) 0 (refused_number refusal)) refl

-- the first number is a refusal's: it is given
pub refused_else : (refusal : Refusal) {number : ℕ} → refusal_number refusal ≡ number → (next : ℕ) → (number else next) ≡ number
refused_else refusal {number} e next = else_refused {a = number} next (λ z. refused_number refusal (e ∙ z))

-- A verdict of the check is no refusal, so one without a number accepts. Assumes nothing.
use Rattle.std.specs.Prelude.{◌≡◌, refl, Bool, true, false, cond, ℕ, ltb}
use Rattle.std.proofs.Common.{arith}
use Rattle.rules.specs.declared.Table.{Table}
use Rattle.rules.specs.declared.Marking.{Marking}
use Rattle.rules.specs.CheckAnswer.{CheckAnswer, Refused, Accepts, Rejects}
use Rattle.rules.specs.Counting.{lowest}
use Rattle.rules.specs.Numbers.{check_number}
use Rattle.rules.specs.Check.{reason, verdict}

abbrev pub Said : CheckAnswer → Type 0
Said (Refused number) = ⊥
Said Accepts = Unit {0}
Said (Rejects reason place) = Unit {0}

reason_said : (number n : ℕ) (f : ℕ → Bool) (next : CheckAnswer) → Said next → Said (reason number n f next)
reason_said number n f next h = go (ltb (lowest n f) n)
  where
    go : (b : Bool) → Said (cond b (Rejects number (lowest n f)) next)
    go true = tt
    go false = h

pub verdict_said : (t : Table) (m : Marking) → Said (verdict t m)
unfolding verdict
verdict_said t m =
    reason_said 1 _ _ _ (reason_said 2 _ _ _ (reason_said 3 _ _ _ (reason_said 4 _ _ _ (reason_said 5 _ _ _ (reason_said 6 _ _ _ tt)))))

pub verdict_done : (t : Table) (m : Marking) → check_number (verdict t m) ≡ 0 → verdict t m ≡ Accepts
verdict_done t m = go (verdict t m) (verdict_said t m)
  where
    go : (v : CheckAnswer) → Said v → check_number v ≡ 0 → v ≡ Accepts
    go (Refused number) s h = absurd s
    go Accepts s h = refl
    go (Rejects reason place) s h = absurd (omega (arith, h))

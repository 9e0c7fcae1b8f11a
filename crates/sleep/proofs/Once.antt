-- The promise of each call leaves one answer, and one content of the lent list: two that both meet it, of arguments that are alike (a table, a
-- marking and a list that hold the same, wherever they lie, and the same number of ticks), are equal. It is stated about the contracts
-- themselves, as the check reads them. Assumes nothing.
use mathlib.Core.Path.{◌≡◌, sym, ◌∙◌}
use Prim.Native.Nat.{ℕ}
use Rattle.std.specs.Prelude.{Result}
use Rattle.image.proofs.Promises.{AgreeAlike, OneAnswer}
use Rattle.rules.specs.declared.refusal.Refusal.{Refusal}
use Rattle.rules.specs.declared.verdict.CheckError.{CheckError}
use Rattle.rules.specs.declared.answers.Slept.{Slept}
use Rattle.rules.proofs.Laws.Results.{slept_once, ticks_once}
use Rattle.sleep.proofs.quiet.Kinds as quiet-kinds
use Rattle.sleep.proofs.quiet.Reads as quiet
use Rattle.sleep.proofs.sleep.Kinds as sleep-kinds
use Rattle.sleep.proofs.sleep.Reads as sleep

pub sleep_once : AgreeAlike 3 sleep-kinds.ps sleep-kinds.r (Result Slept CheckError) sleep.Learnt
    (λ κs μs a b. (a.0.now ≡ b.0.now) × (a.1.0.now ≡ b.1.0.now) × (a.1.1.0 ≡ b.1.1.0) × (a.1.1.1.0.now ≡ b.1.1.1.0.now))
    (λ κs μs one other x y. (one ≡ other) × (x.1.1.1.0.now ≡ y.1.1.1.0.now))
sleep_once κs μs a b one other x y l p q =
    let same = rw (l.0, l.1, l.2, l.3) at p in
    (slept_once _ one other (same.0 ∙ sym q.0), same.1 ∙ sym q.1)

pub quiet_once : OneAnswer 2 quiet-kinds.ps quiet-kinds.r (Result ℕ Refusal) quiet.Learnt
    (λ κs μs a b. (a.0.now ≡ b.0.now) × (a.1.0.now ≡ b.1.0.now))
quiet_once κs μs a b one other x y l p q = ticks_once one other ((rw (l.0, l.1) at p) ∙ sym q)

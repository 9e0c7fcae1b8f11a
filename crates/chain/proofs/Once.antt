-- The promise of the call leaves one answer and one content of the lent list: two that both meet it, of arguments that are alike (a table, a
-- marking and a list that hold the same, wherever they lie, and the same event), are equal. It is stated about the contract itself, as the check
-- reads it. Assumes nothing.
use mathlib.Core.Path.{◌≡◌, sym, ◌∙◌}
use Prim.Native.Nat.{ℕ}
use Rattle.std.specs.Prelude.{Result}
use Rattle.image.proofs.Promises.{AgreeAlike}
use Rattle.rules.specs.declared.refusal.Refusal.{Refusal}
use Rattle.rules.proofs.Laws.Results.{chain_once as result_once}
use Rattle.chain.proofs.chain.Kinds as chain-kinds
use Rattle.chain.proofs.chain.Reads as chain

pub chain_once : AgreeAlike 3 chain-kinds.ps chain-kinds.r (Result ℕ Refusal) chain.Learnt
    (λ κs μs a b. (a.0.now ≡ b.0.now) × (a.1.0.now ≡ b.1.0.now) × (a.1.1.0 ≡ b.1.1.0) × (a.1.1.1.0.now ≡ b.1.1.1.0.now))
    (λ κs μs one other x y. (one ≡ other) × (x.1.1.1.0.now ≡ y.1.1.1.0.now))
chain_once κs μs a b one other x y l p q =
    let same = rw (l.0, l.1, l.2, l.3) at p in
    (result_once one other (same.0 ∙ sym q.0), same.1 ∙ sym q.1)

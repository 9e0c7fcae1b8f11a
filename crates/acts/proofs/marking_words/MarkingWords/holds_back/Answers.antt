-- The word of those that hold back, by its members.
use Prim.Native.Nat.{ℕ, zero, suc, ◌<◌, ◌+◌, ◌^◌}
use native.Mathlib.Omega.{arith}
use lib.ListN.{get_or}
use Rattle.acts.specs.Laws.Acting.{held_word}
use Rattle.acts.proofs.marking_words.MarkingWords.holds_back.Goals as goal

-- each of the three words fits
three : (f : ℕ → ℕ) → f 0 < 2 ^ 64 → f 1 < 2 ^ 64 → f 2 < 2 ^ 64 → (s : ℕ) → s < 3 → f s < 2 ^ 64
three f a b c zero l = a
three f a b c (suc zero) l = b
three f a b c (suc (suc zero)) l = c
three f a b c (suc (suc (suc k))) l = absurd (omega arith)

pub returns : goal.returns
returns c =
    let row = c.args.row in
    let fits = three (λ s. get_or row.words.now (row.at + s) 0) (rw c.word.ensures at c.word.type_inv) (rw c.word-2.ensures at c.word-2.type_inv)
    (rw c.word-3.ensures at c.word-3.type_inv) in
    rw (c.word.ensures, c.word-2.ensures, c.word-3.ensures) (held_word _ _ _ _ c.without-missing.ensures fits)

-- What the inner promises that speak by members leave open: nothing. (`cleared` and what it is made of are told by what their word is good
-- for, and many words are: nothing but the search for a cycle reads it, and its own promise fixes what that finds.) Assumes nothing.
use mathlib.Core.Path.{◌≡◌, ◌∙◌, sym}
use mathlib.Core.List.{List}
use Prim.Native.Nat.{ℕ}
use native.Mathlib.Omega.{arith}
use lib.ListN.{length}
use lib.Seq.{ext_get_or}
use Rattle.rules.specs.declared.Table.{Table}
use Rattle.rules.specs.EventSet.{has}
use Rattle.rules.proofs.Laws.Tests.{same_test}
use Rattle.rules.proofs.Laws.Turns.{same_word}
use Rattle.duties.specs.Inhibition.{Followed, Reached}
use Rattle.duties.specs.Reasons.{Led}
use Rattle.duties.specs.Taking.{Awaits}

-- `reached`: each of two lies in the other
pub reached_once : {word : ℕ → ℕ} {set r s : ℕ} → Reached word set r → Reached word set s → r ≡ s
reached_once {word} {set} {r} {s} p q =
    same_word r s (λ x. same_test (has r x) (has s x) (p.within (has s) q.starts q.on x) (q.within (has r) p.starts p.on x))

-- the words of what is followed, `Following`
pub followed_once : (t : Table) (n : ℕ) (words others : List ℕ) → Followed t n words → Followed t n others → words ≡ others
followed_once t n words others p q =
    ext_get_or 0 words others (p.size ∙ sym q.size)
    (λ i l. same_word _ _ (λ x. p.word i (omega (arith, l, p.size)) x ∙ sym (q.word i (omega (arith, l, p.size)) x)))

-- `led_to`; `chosen`, `held`, `ready` and `free` are told by their members alone (acts, `members_once`)
pub led_once : (rows : List ℕ) (sort set : ℕ) {r s : ℕ} → Led rows sort set r → Led rows sort set s → r ≡ s
led_once rows sort set {r} {s} p q = same_word r s (λ x. p x ∙ sym (q x))

-- the events that wait for each event, `ready`
pub awaits_once : (rows : List ℕ) (set : ℕ) (waiting others : List ℕ) → length waiting ≡ 64 → length others ≡ 64 → Awaits rows set waiting
    → Awaits rows set others
    → waiting ≡ others
awaits_once rows set waiting others a b p q =
    ext_get_or 0 waiting others (a ∙ sym b) (λ i l. same_word _ _ (λ x. p i (omega (arith, l, a)) x ∙ sym (q i (omega (arith, l, a)) x)))

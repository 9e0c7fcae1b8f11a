-- An event or-ed into a word, and words known by all their members. Assumes nothing.
use Rattle.std.specs.Prelude.{◌≡◌, Bool, true, false, ◌||◌, ℕ, zero, suc, ◌<◌, ◌≤◌, ◌+◌, ◌^◌, ◌/◌}
use Rattle.std.proofs.Common.{◌∙◌, ap, sym, pow-suc, one-mul, mul-le-mul_right, arith, lit<}
use Rattle.std.proofs.Math.Pow.{pow-lt, split}
use Rattle.std.specs.Int.Bits.{bit_or}
use Rattle.std.proofs.lemmas.Nat.{or_lt}
use Rattle.rules.specs.EventSet.{has, with_event}
use Rattle.rules.proofs.Laws.EventSet.{has_digit, has_with, with_fits, has_zero, same_members}
use Rattle.rules.proofs.Laws.Bitwise.{has_or, has_one}

-- one event or-ed in
pub or_one : (w n : ℕ) → n < 64 → w < 2 ^ 64 → bit_or w (2 ^ n) ≡ with_event w n
or_one w n b h =
    same_members 64 (bit_or w (2 ^ n)) (with_event w n) (or_lt 64 w (2 ^ n) h (pow-lt {i = n} {j = 64} b)) (with_fits w n b h)
    (λ x l. has_or w (2 ^ n) x ∙ ap (λ (t : Bool). has w x || t) (has_one n x) ∙ sym (has_with w n x))

-- a word without members is 0
pub empty_word : (w : ℕ) → w < 2 ^ 64 → ((x : ℕ) → x < 64 → has w x ≡ false) → w ≡ 0
empty_word w h none = same_members 64 w 0 h (lit< tt) (λ x l. none x l ∙ sym (has_zero x))

-- a number is below its power of two, so a word is known by its members, wherever they lie
below_power : (n : ℕ) → n < 2 ^ n
below_power zero = lit< tt
below_power (suc n) = omega (arith, below_power n, pow-suc 2 n)

pub same_word : (v w : ℕ) → ((x : ℕ) → has v x ≡ has w x) → v ≡ w
same_word v w h =
    let n = v + w in
    let b : n < 2 ^ n = below_power n in
    same_members n v w (omega arith) (omega arith) (λ x l. h x)

-- an event of a word is worth no more than the word
pub worth_le : (w n : ℕ) → has w n ≡ true → 2 ^ n ≤ w
worth_le w n inside =
    let q : 1 ≤ w / 2 ^ n = omega (arith, has_digit w n inside) in
    omega (arith, split w n, mul-le-mul_right (2 ^ n) q, one-mul (2 ^ n))

-- The machine's operations on an event set: or, and, not, the word of one event, the count of ones and of trailing zeros, against
-- membership, size and lowest. Assumes nothing.
use Rattle.std.specs.Prelude.{◌≡◌, refl, Bool, true, false, not, ◌||◌, ◌&&◌, cond, ◌⊎◌, ℕ, zero, suc, ◌+◌, ◌-◌, ◌*◌, ◌/◌, ◌%◌, ◌^◌, ◌<◌, eqb}
use Rattle.std.proofs.Common.{sym, ap, ap₂, ◌∙◌, subst, ⊎_elim, inl, inr, mod-lt, mod-eq_of_lt, one-mul, pow-suc, add-mul, add_comm, div-lt_iff_lt-mul, div-one, le_of_suc-le-suc, one-add, arith, eq-eqb, ne_eqb, lit<, shr-shr, pow-add, pow_pos}
use Rattle.std.proofs.Math.Nat.{div-eq_of_lt, mul-mod_left}
use Rattle.std.proofs.Math.Decide.{dec_lt}
use Rattle.std.proofs.lemmas.Nat.{shl-shr, mod-pow-add, or_shr, or_mod, and_shr, and_mod, ones_cat}
use Rattle.std.proofs.Math.Pow.{pow-lt, split, high}
use Rattle.std.specs.Int.Bits.{bit_and, bit_or}
use Rattle.std.specs.Int.Count.{count_trailing_zeros, under, ones}
use Rattle.rules.specs.Counting.{lowest, how_many}
use Rattle.rules.specs.EventSet.{has, size_of}
use Rattle.rules.proofs.Laws.Tests.{denied}
use Rattle.rules.proofs.Laws.Counting.{Found, Lacks, lowest_is, lowest_none}
use Rattle.rules.proofs.Laws.EventSet.{has_digit, not_digit, digit_has}

-- the digit at a place
abbrev digit : ℕ → ℕ → ℕ
digit w n = w / 2 ^ n % 2

digit_lt : (w n : ℕ) → digit w n < 2
digit_lt w n = mod-lt (w / 2 ^ n) (lit< tt)

or_two : (x y : ℕ) → x < 2 → y < 2 → eqb (bit_or x y) 1 ≡ (eqb x 1 || eqb y 1)
or_two zero zero h l = refl
or_two zero (suc zero) h l = refl
or_two (suc zero) zero h l = refl
or_two (suc zero) (suc zero) h l = refl
or_two zero (suc (suc y)) h l = absurd (omega (arith, l))
or_two (suc zero) (suc (suc y)) h l = absurd (omega (arith, l))
or_two (suc (suc x)) y h l = absurd (omega (arith, h))

and_two : (x y : ℕ) → x < 2 → y < 2 → eqb (bit_and x y) 1 ≡ (eqb x 1 && eqb y 1)
and_two zero zero h l = refl
and_two zero (suc zero) h l = refl
and_two (suc zero) zero h l = refl
and_two (suc zero) (suc zero) h l = refl
and_two zero (suc (suc y)) h l = absurd (omega (arith, l))
and_two (suc zero) (suc (suc y)) h l = absurd (omega (arith, l))
and_two (suc (suc x)) y h l = absurd (omega (arith, h))

-- the events of either set, and of both
pub has_or : (a b x : ℕ) → has (bit_or a b) x ≡ (has a x || has b x)
unfolding has
has_or a b x =
    ap (λ (d : ℕ). eqb (d % 2) 1) (or_shr a b x) ∙ ap (λ (d : ℕ). eqb d 1) (or_mod (a / 2 ^ x) (b / 2 ^ x) 1)
    ∙ or_two (digit a x) (digit b x) (digit_lt a x) (digit_lt b x)

pub has_and : (a b x : ℕ) → has (bit_and a b) x ≡ (has a x && has b x)
unfolding has
has_and a b x =
    ap (λ (d : ℕ). eqb (d % 2) 1) (and_shr a b x) ∙ ap (λ (d : ℕ). eqb d 1) (and_mod (a / 2 ^ x) (b / 2 ^ x) 1)
    ∙ and_two (digit a x) (digit b x) (digit_lt a x) (digit_lt b x)

-- the word that holds event n alone
one_above : (n j : ℕ) → digit (2 ^ n) (n + suc j) ≡ 0
one_above n j = ap (λ (x : ℕ). x % 2) (div-eq_of_lt (pow-lt (omega arith)))

one_below : (x j : ℕ) → digit (2 ^ (suc j + x)) x ≡ 0
one_below x j =
    ap (λ (w : ℕ). w / 2 ^ x % 2) (pow-add 2 (suc j) x) ∙ ap (λ (w : ℕ). w % 2) (shl-shr (2 ^ suc j) x ∙ pow-suc 2 j)
    ∙ mul-mod_left (2 ^ j) 2

one_at : (n : ℕ) → digit (2 ^ n) n ≡ 1
one_at n = ap (λ (w : ℕ). w / 2 ^ n % 2) (sym (one-mul (2 ^ n))) ∙ ap (λ (w : ℕ). w % 2) (shl-shr 1 n)

pub has_one : (n x : ℕ) → has (2 ^ n) x ≡ eqb n x
unfolding has
has_one n x = go (dec_lt n x) (dec_lt x n)
  where
    go : Dec (n < x) → Dec (x < n) → has (2 ^ n) x ≡ eqb n x
    go (yes h) d =
        let e : x ≡ n + suc (x - suc n) = omega arith in
        ap (λ (w : ℕ). eqb w 1) (ap (digit (2 ^ n)) e ∙ one_above n (x - suc n)) ∙ sym (ne_eqb n x (λ q. omega (arith, q)))
    go (no f) (yes h) =
        let e : n ≡ suc (n - suc x) + x = omega arith in
        ap (λ (w : ℕ). eqb w 1) (ap (λ (w : ℕ). digit (2 ^ w) x) e ∙ one_below x (n - suc x)) ∙ sym (ne_eqb n x (λ q. omega (arith, q)))
    go (no f) (no g) =
        let e : x ≡ n = omega arith in
        ap (λ (w : ℕ). eqb w 1) (ap (digit (2 ^ n)) e ∙ one_at n) ∙ sym (eq-eqb n x (sym e))

-- every digit turned over, in a word of k
flip : (t q Q : ℕ) → Q * 2 ≡ t + 1 + q → t % 2 ≡ 1 - q % 2
flip t q Q e = omega arith

not_two : (d : ℕ) → d < 2 → eqb (1 - d) 1 ≡ not (eqb d 1)
not_two zero h = refl
not_two (suc zero) h = refl
not_two (suc (suc d)) h = absurd (omega (arith, h))

pub has_not : (k w x : ℕ) → w < 2 ^ k → x < k → has (2 ^ k - 1 - w) x ≡ not (has w x)
unfolding has
has_not k w x hw hx =
    let j = k - suc x in
    let P = 2 ^ x in
    let q = w / 2 ^ x in
    let r = w % 2 ^ x in
    let ek : k ≡ suc j + x = omega arith in
    let pk : 2 ^ k ≡ 2 ^ j * 2 * P = ap (λ (n : ℕ). 2 ^ n) ek ∙ pow-add 2 (suc j) x ∙ ap (λ (n : ℕ). n * P) (pow-suc 2 j) in
    let hq : q < 2 ^ j * 2 = (div-lt_iff_lt-mul (pow_pos x)).1 (subst (λ (n : ℕ). w < n) pk hw) in
    let t = 2 ^ j * 2 - 1 - q in
    let eQ : 2 ^ j * 2 ≡ t + 1 + q = omega arith in
    let dist : 2 ^ j * 2 * P ≡ t * P + P + q * P =
    ap (λ (n : ℕ). n * P) eQ ∙ add-mul (t + 1) q P ∙ ap (λ (n : ℕ). n + q * P) (add-mul t 1 P ∙ ap (λ (n : ℕ). t * P + n) (one-mul P)) in
    let hr : r < P = mod-lt w (pow_pos x) in
    let sp : q * P + r ≡ w = split w x in
    let e : 2 ^ k - 1 - w ≡ t * P + (P - 1 - r) = omega arith in
    let lo : P - 1 - r < P = omega arith in
    let b : digit (2 ^ k - 1 - w) x ≡ 1 - digit w x = ap (λ (n : ℕ). n / P % 2) e ∙ ap (λ (n : ℕ). n % 2) (high t x lo) ∙ flip t q (2 ^ j) eQ in
    ap (λ (n : ℕ). eqb n 1) b ∙ not_two (digit w x) (digit_lt w x)

-- the count of ones is the size
ones_many : (k w : ℕ) → ones (w % 2 ^ k) ≡ how_many k (has w)
unfolding how_many ones
ones_many zero w = let e : w % 2 ^ 0 ≡ 0 = omega arith in ap ones e
ones_many (suc k) w =
    ap ones (ap (λ (x : ℕ). w % 2 ^ x) (sym (one-add k)) ∙ mod-pow-add w 1 k)
    ∙ ones_cat k (digit w k) (w % 2 ^ k) (mod-lt w (pow_pos k))
    ∙ add_comm (ones (digit w k)) (ones (w % 2 ^ k))
    ∙ ap₂ (λ (x y : ℕ). x + y) (ones_many k w) (top (has w k) refl)
  where
    top : (b : Bool) → has w k ≡ b → ones (digit w k) ≡ cond b 1 0
    top true e = ap ones (has_digit w k e)
    top false e = ap ones (not_digit w k e)

pub size_is_ones : (w : ℕ) → w < 2 ^ 64 → ones w ≡ size_of w
unfolding size_of
size_is_ones w h = ap ones (sym (mod-eq_of_lt h)) ∙ ones_many 64 w

-- the trailing zeros end at the lowest
halved : (w x : ℕ) → has (w / 2) x ≡ has w (suc x)
unfolding has
halved w x = ap (λ (d : ℕ). eqb (d % 2) 1) (shr-shr w 1 x ∙ ap (λ (k : ℕ). w / 2 ^ k) (one-add x))

trailing : (k w : ℕ) → Found (has w) k (count_trailing_zeros k w) ⊎ Lacks (has w) k (count_trailing_zeros k w)
unfolding count_trailing_zeros
trailing zero w = inr (record { whole = refl; nowhere = λ y l. absurd (omega arith) })
trailing (suc k) w = go (w % 2) refl (trailing k (w / 2))
  where
    zeroth : digit w 0 ≡ w % 2
    zeroth = ap (λ (x : ℕ). x % 2) (div-one w)

    below : w % 2 ≡ 0 → (t : ℕ) → ((y : ℕ) → y < t → has (w / 2) y ≡ false) → (y : ℕ) → y < suc t → has w y ≡ false
    below z t h zero l = denied (has w 0) (λ e. omega (arith, has_digit w 0 e, zeroth, z))
    below z t h (suc y) l = sym (halved w y) ∙ h y (le_of_suc-le-suc l)

    go : (d : ℕ) → w % 2 ≡ d → Found (has (w / 2)) k (count_trailing_zeros k (w / 2)) ⊎ Lacks (has (w / 2)) k (count_trailing_zeros k (w / 2))
        → Found (has w) (suc k) (under d (count_trailing_zeros k (w / 2))) ⊎ Lacks (has w) (suc k) (under d (count_trailing_zeros k (w / 2)))
    go zero e (inl f) = inl (record { small = omega (arith, f.small); holds = sym (halved w _) ∙ f.holds; first = below e _ f.first })
    go zero e (inr f) = inr (record { whole = ap suc f.whole; nowhere = below e k f.nowhere })
    go (suc d) e f = inl (record { small = omega arith; holds = digit_has w 0 (omega (arith, zeroth, e)); first = λ y l. absurd (omega arith) })

pub lowest_is_trailing : (k w : ℕ) → count_trailing_zeros k w ≡ lowest k (has w)
lowest_is_trailing k w =
    ⊎_elim
    (λ f. sym (lowest_is (has w) k (count_trailing_zeros k w) f.small f.holds f.first))
    (λ f. f.whole ∙ sym (lowest_none (has w) k f.nowhere))
    (trailing k w)

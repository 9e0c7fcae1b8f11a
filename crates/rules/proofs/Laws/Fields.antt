-- Bit fields, once over the width and the place. Two neighbours are one field, so a field within a wider one is a quotient and a remainder
-- of it; whole bytes are the bytes as a number, high byte first; what is written is read back, and what is read is written again; two numbers'
-- bytes, one behind the other, are one number's.
-- Assumes nothing.
use Rattle.std.specs.Prelude.{◌≡◌, refl, Bool, true, false, List, [], ◌∷◌, ◌++◌, eqb, length, take, drop}
use Rattle.std.proofs.Math.Path.{sym, ap}
use Rattle.std.proofs.Common.{ap₂, ◌∙◌, mod-lt, mod-eq_of_lt, le_of_eq, add-suc, add-zero, zero-add, div-one, add-one, pow-add, shr-shr, length-drop, length-append, get_or-take, get_or-drop, ext_get_or, length-take-le, take_all, get_or-append-add}
use Prim.Native.Nat.{ℕ, zero, suc, ◌+◌, ◌-◌, ◌*◌, ◌/◌, ◌%◌, ◌^◌, ◌<◌, ◌≤◌}
use Rattle.std.proofs.Math.Nat.{pow-suc, add_assoc, mul_assoc}
use native.Mathlib.Omega.{arith}
use Rattle.std.proofs.Math.Dec.{lit<}
use Rattle.std.proofs.Math.Pow.{low, high}
use Rattle.std.proofs.lemmas.Nat.{mod-pow-add}
use Rattle.std.proofs.Math.ListN.{get_or, get_or-append}
use Rattle.rules.specs.Fields.{bit_at, field, bit, bytes_of, ◌▸◌, ◌∶◌}

module _ (image : List ℕ) where
  digit_lt : (p : ℕ) → bit_at image p < 2
  digit_lt p = mod-lt (get_or image (p / 8) 0 / 2 ^ (7 - p % 8)) (lit< tt)

  -- a field of w bits is below 2 ^ w
  pub field_lt : (p w : ℕ) → field image p w < 2 ^ w
  unfolding field
  field_lt p zero = lit< tt
  field_lt p (suc w) = omega (arith, pow-suc 2 w, field_lt p w, digit_lt (p + w))

  -- two neighbours are one field
  pub field_join : (p u w : ℕ) → field image p (u + w) ≡ field image p u * 2 ^ w + field image (p + u) w
  unfolding field
  field_join p u zero = rw (add-zero u) (omega arith)
  field_join p u (suc w) =
      rw (add-suc, field_join p u w, pow-suc, add_assoc p u w, ← mul_assoc (field image p u) (2 ^ w) 2) (omega arith)

  -- a field within a wider one, with u bits before it and k behind
  pub field_part : (p u w k : ℕ) → field image (p + u) w ≡ field image p (u + (w + k)) / 2 ^ k % 2 ^ w
  field_part p u w k =
      let parts : field image p (u + (w + k)) ≡ field image p (u + w) * 2 ^ k + field image (p + (u + w)) k
      = ap (field image p) (sym (add_assoc u w k)) ∙ field_join p (u + w) k in
      sym
      (ap (λ (x : ℕ). x / 2 ^ k % 2 ^ w) parts
      ∙ ap (λ (x : ℕ). x % 2 ^ w) (high (field image p (u + w)) k (field_lt (p + (u + w)) k) ∙ field_join p u w)
      ∙ low (field image p u) w (field_lt (p + u) w))

  -- with nothing before it, and with nothing behind it
  pub first_part : (p w k : ℕ) → field image p w ≡ field image p (w + k) / 2 ^ k % 2 ^ w
  first_part p w k =
      ap (λ (q : ℕ). field image q w) (sym (add-zero p))
      ∙ field_part p 0 w k
      ∙ ap (λ (n : ℕ). field image p n / 2 ^ k % 2 ^ w) (zero-add (w + k))

  pub last_part : (p u w : ℕ) → field image (p + u) w ≡ field image p (u + w) % 2 ^ w
  last_part p u w =
      field_part p u w 0
      ∙ ap (λ (n : ℕ). field image p (u + n) / 1 % 2 ^ w) (add-zero w)
      ∙ ap (λ (n : ℕ). n % 2 ^ w) (div-one (field image p (u + w)))

  -- where a field is what was before, with v behind it, its parts are those
  pub field_ends : (p u w before v : ℕ) → v < 2 ^ w → field image p (u + w) ≡ before ▸ w ∶ v
      → (field image p u ≡ before) × (field image (p + u) w ≡ v)
  field_ends p u w before v h e =
      let parts = sym (field_join p u w) ∙ e in (
        sym (high (field image p u) w (field_lt (p + u) w)) ∙ ap (λ (x : ℕ). x / 2 ^ w) parts ∙ high before w h,
        sym (low (field image p u) w (field_lt (p + u) w)) ∙ ap (λ (x : ℕ). x % 2 ^ w) parts ∙ low before w h,
      )

  -- a bit of byte a, and so the first j bits of it
  bit_of : (a j : ℕ) → j < 8 → bit_at image (8 * a + j) ≡ get_or image a 0 / 2 ^ (7 - j) % 2
  bit_of a j h =
      let q : (8 * a + j) / 8 ≡ a = omega arith in
      let r : (8 * a + j) % 8 ≡ j = omega arith in
      rw (q, r)

  first_bits : (a : ℕ) → get_or image a 0 < 256 → (j : ℕ) → j ≤ 8 → field image (8 * a) j ≡ get_or image a 0 / 2 ^ (8 - j)
  unfolding field
  first_bits a b zero l = omega arith
  first_bits a b (suc j) l =
      let e : 8 - j ≡ 7 - j + 1 = omega arith in
      let f : 8 - suc j ≡ 7 - j = omega arith in
      let x = get_or image a 0 / 2 ^ (7 - j) in
      let ih = first_bits a b j (omega arith) ∙ ap (λ (k : ℕ). get_or image a 0 / 2 ^ k) e ∙ sym (shr-shr (get_or image a 0) (7 - j) 1) in
      rw (f, ih, bit_of a j (omega arith)) (omega arith)

  -- a byte is a field of 8 bits
  pub byte_field : (a : ℕ) → get_or image a 0 < 256 → field image (8 * a) 8 ≡ get_or image a 0
  byte_field a b = first_bits a b 8 (omega arith) ∙ omega arith

  -- a word of bytes, one byte more
  pub word_more : (at n : ℕ) → get_or image (at + n) 0 < 256
      → field image (8 * at) (8 * (n + 1)) ≡ field image (8 * at) (8 * n) * 256 + get_or image (at + n) 0
  word_more at n b =
      let e : 8 * (n + 1) ≡ 8 * n + 8 = omega arith in
      let f : 8 * at + 8 * n ≡ 8 * (at + n) = omega arith in
      rw (e, field_join (8 * at) (8 * n) 8, f, byte_field (at + n) b)

-- 256 ^ n, as a power of 2
power_bytes : (n : ℕ) → 256 ^ n ≡ 2 ^ (8 * n)
power_bytes zero = refl
power_bytes (suc n) =
    let e : 8 * suc n ≡ 8 * n + 8 = omega arith in
    rw (e, pow-add 2 (8 * n) 8, pow-suc 256 n, power_bytes n)

-- a number in n bytes, and byte i of it
pub length_bytes : (n v : ℕ) → length (bytes_of n v) ≡ n
unfolding bytes_of
length_bytes zero v = refl
length_bytes (suc n) v = ap suc (length_bytes n v)

pub byte_of : (n v i : ℕ) → i < n → get_or (bytes_of n v) i 0 ≡ v / 2 ^ (8 * (n - suc i)) % 256
unfolding bytes_of
byte_of zero v i h = absurd (omega arith)
byte_of (suc n) v zero h =
    let e : suc n - 1 ≡ n = omega arith in
    rw (e, power_bytes n)
byte_of (suc n) v (suc i) h =
    let e : suc n - suc (suc i) ≡ n - suc i = omega arith in
    rw e (byte_of n v i (omega arith))

-- what is read from whole bytes is written as the same bytes
pub bytes_of_word : (image : List ℕ) → ((i : ℕ) → get_or image i 0 < 256) → (at n : ℕ) → at + n ≤ length image
    → bytes_of n (field image (8 * at) (8 * n)) ≡ take n (drop at image)
bytes_of_word image b at n h =
    let word = field image (8 * at) (8 * n) in
    let long : n ≤ length (drop at image) = rw length-drop (omega arith) in
    ext_get_or 0 (bytes_of n word) (take n (drop at image)) (length_bytes n word ∙ sym (length-take-le n (drop at image) long))
    (λ i l. same i (rw (length_bytes n word) at l))
  where
    same : (i : ℕ) → i < n → get_or (bytes_of n (field image (8 * at) (8 * n))) i 0 ≡ get_or (take n (drop at image)) i 0
    same i l =
        let behind = 8 * (n - suc i) in
        let e : 8 * i + (8 + behind) ≡ 8 * n = omega arith in
        let f : 8 * at + 8 * i ≡ 8 * (at + i) = omega arith in
        rw (get_or-take n (drop at image) i 0 l, get_or-drop at image i 0)
        (byte_of n (field image (8 * at) (8 * n)) i l
        ∙ ap (λ (k : ℕ). field image (8 * at) k / 2 ^ behind % 256) (sym e)
        ∙ sym (field_part image (8 * at) (8 * i) 8 behind)
        ∙ ap (λ (p : ℕ). field image p 8) f
        ∙ byte_field image (at + i) (b (at + i)))

-- whole bytes that are those of a number read as that number
pub word_of_bytes : (image : List ℕ) (at n v : ℕ) → ((i : ℕ) → i < n → get_or image (at + i) 0 ≡ get_or (bytes_of n v) i 0)
    → field image (8 * at) (8 * n) ≡ v % 2 ^ (8 * n)
unfolding field
word_of_bytes image at n v same =
    let e : n - n ≡ 0 = omega arith in
    first n (omega arith) ∙ rw e (ap (λ (x : ℕ). x % 2 ^ (8 * n)) (omega arith))
  where
    first : (m : ℕ) → m ≤ n → field image (8 * at) (8 * m) ≡ v / 2 ^ (8 * (n - m)) % 2 ^ (8 * m)
    first zero h = omega arith
    first (suc m) h =
        let x = v / 2 ^ (8 * (n - suc m)) in
        let byte : get_or image (at + m) 0 ≡ x % 256 = same m h ∙ byte_of n v m h in
        let e : 8 * (n - m) ≡ 8 * (n - suc m) + 8 = omega arith in
        let f : 8 * suc m ≡ 8 * m + 8 = omega arith in
        let above : field image (8 * at) (8 * m) ≡ x / 256 % 2 ^ (8 * m) =
        first m (omega arith) ∙ ap (λ (k : ℕ). v / 2 ^ k % 2 ^ (8 * m)) e
        ∙ ap (λ (y : ℕ). y % 2 ^ (8 * m)) (sym (shr-shr v (8 * (n - suc m)) 8)) in
        ap (λ (k : ℕ). field image (8 * at) (8 * k)) (sym (add-one m))
        ∙ word_more image at m (rw byte (mod-lt x (lit< tt)))
        ∙ ap₂ (λ (a b : ℕ). a * 256 + b) above byte
        ∙ sym (mod-pow-add x (8 * m) 8)
        ∙ ap (λ (k : ℕ). x % 2 ^ k) (sym f)

-- every byte is below 256, also of bytes joined
bytes_small : (n v i : ℕ) → get_or (bytes_of n v) i 0 < 256
unfolding bytes_of
bytes_small zero v zero = lit< tt
bytes_small zero v (suc i) = lit< tt
bytes_small (suc n) v zero = mod-lt (v / 256 ^ n) (lit< tt)
bytes_small (suc n) v (suc i) = bytes_small n v i

joined_small : (l m : List ℕ) → ((i : ℕ) → get_or l i 0 < 256) → ((i : ℕ) → get_or m i 0 < 256) → (i : ℕ) → get_or (l ++ m) i 0 < 256
joined_small [] m p q i = q i
joined_small (x ∷ l) m p q zero = p 0
joined_small (x ∷ l) m p q (suc i) = joined_small l m (λ j. p (suc j)) q i

-- bytes of one number and then of another are those of the two joined
pub bytes_joined : (a b v w : ℕ) → v < 2 ^ (8 * a) → w < 2 ^ (8 * b) → bytes_of a v ++ bytes_of b w ≡ bytes_of (a + b) (v ▸ 8 * b ∶ w)
bytes_joined a b v w p q =
    sym (take_all (a + b) image (le_of_eq long))
    ∙ sym (bytes_of_word image (joined_small (bytes_of a v) (bytes_of b w) (bytes_small a v) (bytes_small b w)) 0 (a + b)
    (omega (arith, long)))
    ∙ ap (bytes_of (a + b)) whole
  where
    image : List ℕ
    image = bytes_of a v ++ bytes_of b w

    long : length image ≡ a + b
    long = length-append (bytes_of a v) (bytes_of b w) ∙ ap₂ ◌+◌ (length_bytes a v) (length_bytes b w)

    upper : field image 0 (8 * a) ≡ v
    upper =
        word_of_bytes image 0 a v
        (λ i l.
        ap (λ (k : ℕ). get_or image k 0) (zero-add i)
        ∙ get_or-append (bytes_of a v) (bytes_of b w) 0 i (rw (length_bytes a v) l))
        ∙ mod-eq_of_lt p

    lower : field image (8 * a) (8 * b) ≡ w
    lower =
        word_of_bytes image a b w
        (λ i l.
        ap (λ (k : ℕ). get_or image (k + i) 0) (sym (length_bytes a v))
        ∙ get_or-append-add (bytes_of a v) (bytes_of b w) i 0)
        ∙ mod-eq_of_lt q

    whole : field image 0 (8 * (a + b)) ≡ v ▸ 8 * b ∶ w
    whole =
        let e : 8 * (a + b) ≡ 8 * a + 8 * b = omega arith in
        ap (field image 0) e
        ∙ field_join image 0 (8 * a) (8 * b)
        ∙ ap₂ (λ (x y : ℕ). x * 2 ^ (8 * b) + y) upper (ap (λ (k : ℕ). field image k (8 * b)) (zero-add (8 * a)) ∙ lower)

-- a digit and its flag
pub flag_bit : (x : ℕ) → x < 2 → bit (eqb x 1) ≡ x
flag_bit zero h = refl
flag_bit (suc zero) h = refl
flag_bit (suc (suc x)) h = absurd (omega arith)

pub bit_flag : (b : Bool) → eqb (bit b) 1 ≡ b
bit_flag true = refl
bit_flag false = refl

pub bit_lt : (b : Bool) → bit b < 2
bit_lt true = omega arith
bit_lt false = omega arith

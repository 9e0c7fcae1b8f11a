-- The last bytes of a word's eight are those of the number; and a number of so many bytes is the word whose last bytes they are, the others 0.
-- Assumes nothing.
use Rattle.std.specs.Prelude.{◌≡◌, refl, List, ◌∷◌, ◌++◌, length, take, drop, get_or, replicate}
use Rattle.std.specs.Int.{byte_at, bytes_high_first, to_be_bytes, from_be_bytes}
use Rattle.std.proofs.Common.{sym, ap, ap₂, ◌∙◌, arith, w64, zero-add, mod-eq_of_lt, le_of_eq, take_all, length-append, append-nil}
use Prim.Native.Nat.{ℕ, zero, suc, ◌+◌, ◌-◌, ◌*◌, ◌/◌, ◌%◌, ◌^◌, ◌<◌, ◌≤◌}
use borrow.Rule.Slice.PartMut.{put_mid}
use Rattle.std.proofs.lemmas.Nat.{be_bytes_8}
use Rattle.std.proofs.lemmas.List.{drop_at, length-replicate, get_or-replicate, take-replicate, drop-replicate}
use Rattle.std.proofs.Math.ListN.{get_or-append}
use Rattle.rules.specs.Fields.{field, bytes_of}
use Rattle.rules.proofs.Laws.Fields.{length_bytes, word_of_bytes, field_join}
use Rattle.image.specs.Laws.Slices.{field_of_part}

byte_first : (n v : ℕ) → byte_at n v ≡ v / 256 ^ n % 256
byte_first zero v = omega arith
byte_first (suc n) v = refl

high_first : (n v : ℕ) → bytes_high_first n v ≡ bytes_of n v
unfolding bytes_of
high_first zero v = refl
high_first (suc n) v = ap₂ (λ (byte : ℕ) (rest : List ℕ). byte ∷ rest) (byte_first n v) (high_first n v)

last_bytes : (most behind n v : ℕ) → most ≡ n + behind → drop behind (bytes_high_first most v) ≡ bytes_high_first n v
last_bytes most zero n v e = let same : most ≡ n = omega arith in ap (λ (k : ℕ). bytes_high_first k v) same
last_bytes zero (suc behind) n v e = absurd (omega arith)
last_bytes (suc most) (suc behind) n v e = last_bytes most behind n v (omega arith)

pub last_of_word : (n v : ℕ) → n ≤ 8 → take (8 - (8 - n)) (drop (8 - n) (to_be_bytes w64 v)) ≡ bytes_of n v
last_of_word n v b =
    let back : 8 - (8 - n) ≡ n = omega arith in
    ap (take (8 - (8 - n))) (last_bytes 8 (8 - n) n v (omega arith) ∙ high_first n v)
    ∙ rw back (take_all n (bytes_of n v) (le_of_eq (length_bytes n v)))

nothing : (l : List ℕ) (w : ℕ) → ((q : ℕ) → q < w → get_or l (q / 8) 0 ≡ 0) → field l 0 w ≡ 0
unfolding field
nothing l zero h = refl
nothing l (suc w) h = rw (nothing l w (λ q b. h q (omega arith)), zero-add w, h w (omega arith)) (omega arith)

-- the word that eight bytes tell
module _ (eight : List ℕ) (long : length eight ≡ 8) (small : (i : ℕ) → get_or eight i 0 < 256) {v : ℕ} (v-is : v ≡ from_be_bytes w64 eight) where
  same_bytes : bytes_of 8 v ≡ eight
  same_bytes = sym (high_first 8 v) ∙ be_bytes_8 eight v long small v-is

  pub word_of_eight : v < 2 ^ 64 → v ≡ field eight 0 64
  word_of_eight fits =
      sym
      (word_of_bytes eight 0 8 v (λ i b. ap (λ (k : ℕ). get_or eight k 0) (zero-add i) ∙ ap (λ (l : List ℕ). get_or l i 0) (sym same_bytes))
      ∙ mod-eq_of_lt fits)

-- of which the first are 0
pub number_behind : (k n : ℕ) (bytes : List ℕ) → length bytes ≡ n → field (replicate k 0 ++ bytes) 0 (8 * (k + n)) ≡ field bytes 0 (8 * n)
number_behind k n bytes long =
    let zeros : List ℕ = replicate k 0 in
    let all = zeros ++ bytes in
    let parts : 8 * (k + n) ≡ 8 * k + 8 * n = omega arith in
    let place : 8 * k + 0 ≡ 0 + 8 * k = omega arith in
    let many : length zeros ≡ k = length-replicate k 0 in
    let first : field all 0 (8 * k) ≡ 0 = nothing all (8 * k)
    (λ q b. get_or-append zeros bytes 0 (q / 8) (rw many (omega arith)) ∙ get_or-replicate k (q / 8) 0 0 (omega arith)) in
    let rest : take n (drop k all) ≡ bytes = ap (take n) (drop_at zeros bytes k many) ∙ take_all n bytes (le_of_eq long) in
    let behind : field all (0 + 8 * k) (8 * n) ≡ field bytes 0 (8 * n) =
    ap (λ (p : ℕ). field all p (8 * n)) (sym place) ∙ sym (field_of_part all k n 0 (8 * n) (omega arith))
    ∙ ap (λ (l : List ℕ). field l 0 (8 * n)) rest in
    ap (field all 0) parts ∙ field_join all 0 (8 * k) (8 * n) ∙ rw (first, behind) (omega arith)

small_behind : (k : ℕ) (bytes : List ℕ) → ((i : ℕ) → get_or bytes i 0 < 256) → (i : ℕ) → get_or (replicate k 0 ++ bytes) i 0 < 256
small_behind zero bytes small i = small i
small_behind (suc k) bytes small zero = omega arith
small_behind (suc k) bytes small (suc i) = small_behind k bytes small i

-- bytes that are put last into eight that are 0
put_last : (n : ℕ) (bytes : List ℕ) → n ≤ 8 → put_mid (8 - n) (8 - (8 - n)) (replicate 8 0) bytes ≡ replicate (8 - n) 0 ++ bytes
put_last n bytes few =
    let behind : 8 - (8 - n) - (8 - (8 - n)) ≡ 0 = omega arith in
    rw (take-replicate {X = ℕ} (8 - n) 8 0 (omega arith), drop-replicate {X = ℕ} (8 - n) 8 0, drop-replicate {X = ℕ} (8 - (8 - n)) (8 - (8 - n)) 0, behind, append-nil bytes) refl

pub word_of_last : (n : ℕ) (bytes : List ℕ) → length bytes ≡ n → n ≤ 8 → ((i : ℕ) → get_or bytes i 0 < 256) → {v : ℕ} → v < 2 ^ 64
    → v ≡ from_be_bytes w64 (put_mid (8 - n) (8 - (8 - n)) (replicate 8 0) bytes) → v ≡ field bytes 0 (8 * n)
word_of_last n bytes long few small fits v-is =
    let eight = replicate (8 - n) 0 ++ bytes in
    let whole : 64 ≡ 8 * (8 - n + n) = omega arith in
    let many : length eight ≡ 8 = length-append (replicate (8 - n) 0) bytes ∙ ap₂ ◌+◌ (length-replicate (8 - n) 0) long ∙ omega arith in
    word_of_eight eight many (small_behind (8 - n) bytes small) (v-is ∙ ap (from_be_bytes w64) (put_last n bytes few)) fits
    ∙ ap (field eight 0) whole
    ∙ number_behind (8 - n) n bytes long

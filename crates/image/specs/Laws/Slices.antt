-- A field of a part of an image, whole bytes of it, is the image's at that place. Assumes nothing.
use Rattle.std.specs.Prelude.{◌≡◌, refl, List, [], ◌∷◌, ◌++◌, length, set, take, drop}
use Rattle.std.proofs.Common.{sym, ap, ap₂, ◌∙◌, arith, append_assoc, add-one, drop-drop, get_or-take, get_or-drop, length-take-le, take_all, length-drop}
use Prim.Native.Nat.{ℕ, zero, suc, ◌+◌, ◌-◌, ◌*◌, ◌/◌, ◌%◌, ◌<◌, ◌≤◌}
use borrow.Rule.Slice.PartMut.{put_mid}
use Rattle.std.proofs.lemmas.List.{set_split}
use Rattle.rules.specs.Fields.{bit_at, field, bytes_of}

module _ (image : List ℕ) (at n : ℕ) where
  bit_part : (q : ℕ) → q < 8 * n → bit_at (take n (drop at image)) q ≡ bit_at image (8 * at + q)
  bit_part q b =
      let byte : (8 * at + q) / 8 ≡ at + q / 8 = omega arith in
      let bit : (8 * at + q) % 8 ≡ q % 8 = omega arith in
      rw (byte, bit, get_or-take n (drop at image) (q / 8) 0 (omega arith), get_or-drop at image (q / 8) 0) refl

  pub field_of_part : (p w : ℕ) → p + w ≤ 8 * n → field (take n (drop at image)) p w ≡ field image (8 * at + p) w
  unfolding field
  field_of_part p zero b = refl
  field_of_part p (suc w) b =
      let place : 8 * at + (p + w) ≡ 8 * at + p + w = omega arith in
      ap₂ (λ (above bit : ℕ). above * 2 + bit) (field_of_part p w (omega arith)) (bit_part (p + w) (omega arith) ∙ rw place refl)

  -- all of it
  pub word_of_part : field (take n (drop at image)) 0 (8 * n) ≡ field image (8 * at) (8 * n)
  word_of_part = let place : 8 * at + 0 ≡ 8 * at = omega arith in field_of_part 0 (8 * n) (omega arith) ∙ rw place refl

  -- where there are so many bytes, also told by how many the part has
  pub word_part : at + n ≤ length image
      → field (take n (drop at image)) 0 (8 * length (take n (drop at image))) ≡ field image (8 * at) (8 * n)
  word_part room =
      let long : length (take n (drop at image)) ≡ n = length-take-le n (drop at image) (rw length-drop (omega arith)) in
      rw long word_of_part

  pub word_behind : length image ≡ at + n → field (drop at image) 0 (8 * length (drop at image)) ≡ field image (8 * at) (8 * n)
  word_behind room =
      let all : length (drop at image) ≤ n = rw length-drop (omega (arith, room)) in
      ap (λ (part : List ℕ). field part 0 (8 * length part)) (sym (take_all n (drop at image) all)) ∙ word_part (omega (arith, room))

-- a part is named by where it begins and where it ends
pub from_to : {A : Type 0} (l : List A) (at n : ℕ) → take (at + n - at) (drop at l) ≡ take n (drop at l)
from_to l at n = let width : at + n - at ≡ n = omega arith in rw width refl

pub word_from_to : (image : List ℕ) (at n : ℕ) → at + n ≤ length image
    → field (take (at + n - at) (drop at image)) 0 (8 * length (take (at + n - at) (drop at image))) ≡ field image (8 * at) (8 * n)
word_from_to image at n room = rw (from_to image at n) (word_part image at n room)

-- what is put into a part stands there, and the rest is as it was
pub put_from_to : {A : Type 0} (at n : ℕ) (l piece : List A) → put_mid at (at + n - at) l piece ≡ take at l ++ piece ++ drop (at + n) l
put_from_to at n l piece =
    let width : at + n - at ≡ n = omega arith in
    rw width (sym (append_assoc (take at l) piece (drop n (drop at l))) ∙ ap {B = List _} (λ rest. take at l ++ piece ++ rest) (drop-drop n at l))

-- where there are so many, a part is so long
pub length_from_to : {A : Type 0} (at n : ℕ) (l : List A) → at + n ≤ length l → length (take (at + n - at) (drop at l)) ≡ n
length_from_to at n l room = rw (from_to l at n) (length-take-le n (drop at l) (rw length-drop (omega arith)))

-- a byte is put, which is the bytes of a number that is so small
pub put_byte : (at byte : ℕ) (l : List ℕ) → at < length l → set l at byte ≡ take at l ++ (byte ∷ []) ++ drop (at + 1) l
put_byte at byte l room =
    set_split l at byte room
    ∙ ap (λ (k : ℕ). take at l ++ byte ∷ drop k l) (sym (add-one at))
    ∙ sym (append_assoc (take at l) (byte ∷ []) (drop (at + 1) l))

pub byte_of_number : {byte v : ℕ} → byte < 256 → byte ≡ v → byte ∷ [] ≡ bytes_of 1 v
unfolding bytes_of
byte_of_number {byte} {v} small e = ap (λ (b : ℕ). b ∷ []) (omega arith)

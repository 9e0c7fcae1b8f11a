-- Pieces of one length, joined, once over the piece and its length: how long they are, the last of them, byte i of piece e, and piece e as a whole;
-- the number that a piece is the bytes of, behind a head and before a rest; one put behind what stands in a buffer; the first i of them there, and
-- one more; and pieces that are each their stretch of an image are that stretch as a whole. Assumes nothing.
use Rattle.std.specs.Prelude.{◌≡◌}
use Rattle.std.proofs.Math.Path.{sym, ap, ap₂}
use Rattle.std.proofs.Common.{◌∙◌, add-zero, zero-add, add-suc, suc-add, mod-eq_of_lt, add-one, length-drop, take-append-drop, length-take-le, take-add}
use mathlib.Core.List.{List, ◌++◌, append_assoc, append-nil}
use Prim.Native.Nat.{ℕ, zero, suc, ◌+◌, ◌*◌, ◌^◌, ◌<◌, ◌≤◌}
use native.Mathlib.Omega.{arith}
use Rattle.std.proofs.Math.ListN.{length, get_or, take, drop, length-append, get_or-append}
use Rattle.std.proofs.Math.Seq.{take_at, drop-append-add, drop-drop, get_or-append-add}
use Rattle.rules.specs.Fields.{field, bytes_of}
use Rattle.rules.specs.Pieces.{pieces}
use Rattle.rules.proofs.Laws.Fields.{word_of_bytes}

-- each piece has `width` bytes
pub record Sized (f : ℕ → List ℕ) (width : ℕ) : Type 0 where
  pub each : (e : ℕ) → length (f e) ≡ width

-- the first i pieces stand in a buffer from byte `start` on, and the rest is as it was
abbrev pub standing : (ℕ → List ℕ) → ℕ → List ℕ → ℕ → ℕ → List ℕ
standing f width buffer start i = take start buffer ++ pieces f 0 i ++ drop (start + width * i) buffer

-- a piece put behind what stands at the start of a buffer; the rest is as it was
pub put_behind : (buffer held piece : List ℕ) (at width : ℕ) {before after : List ℕ} → length held ≡ at → before ≡ held ++ drop at buffer
    → after ≡ take at before ++ piece ++ drop (at + width) before → after ≡ held ++ piece ++ drop (at + width) buffer
put_behind buffer held piece at width long stands put =
    put
    ∙ rw stands
    (ap₂ (λ (a b : List ℕ). a ++ piece ++ b) (take_at held (drop at buffer) at long)
    (ap (λ (k : ℕ). drop (k + width) (held ++ drop at buffer)) (sym long)
    ∙ drop-append-add held (drop at buffer) width
    ∙ drop-drop width at buffer))

module _ (f : ℕ → List ℕ) where
  pub pieces_last : (at n : ℕ) → pieces f at (suc n) ≡ pieces f at n ++ f (at + n)
  unfolding pieces
  pieces_last at zero = append-nil (f at) ∙ ap f (sym (add-zero at))
  pieces_last at (suc n) =
      ap (λ (l : List ℕ). f at ++ l) (pieces_last (suc at) n)
      ∙ sym (append_assoc (f at) (pieces f (suc at) n) (f (suc at + n)))
      ∙ ap (λ (k : ℕ). (f at ++ pieces f (suc at) n) ++ f k) (suc-add at n ∙ sym (add-suc at n))

  -- one piece more, as a loop counts
  pub pieces_more : (i : ℕ) → pieces f 0 (i + 1) ≡ pieces f 0 i ++ f i
  pieces_more i = ap (pieces f 0) (add-one i) ∙ pieces_last 0 i ∙ ap (λ (k : ℕ). pieces f 0 i ++ f k) (zero-add i)

module _ {f : ℕ → List ℕ} {width : ℕ} (sized : Sized f width) where
  pub pieces_length : (at n : ℕ) → length (pieces f at n) ≡ width * n
  unfolding pieces
  pieces_length at zero = omega arith
  pieces_length at (suc n) = length-append (f at) (pieces f (suc at) n) ∙ omega (arith, sized.each at, pieces_length (suc at) n)

  -- byte i of piece e
  pub piece_byte : (rest : List ℕ) (at n e i : ℕ) → e < n → i < width
      → get_or (pieces f at n ++ rest) (width * e + i) 0 ≡ get_or (f (at + e)) i 0
  unfolding pieces
  piece_byte rest at zero e i h l = absurd (omega arith)
  piece_byte rest at (suc n) zero i h l =
      let first : width * 0 + i ≡ i = omega arith in
      ap₂ (λ (s : List ℕ) (k : ℕ). get_or s k 0) (append_assoc (f at) (pieces f (suc at) n) rest) first
      ∙ get_or-append (f at) (pieces f (suc at) n ++ rest) 0 i (rw (sized.each at) l)
      ∙ ap (λ (k : ℕ). get_or (f k) i 0) (sym (add-zero at))
  piece_byte rest at (suc n) (suc e) i h l =
      let later : width * suc e + i ≡ length (f at) + (width * e + i) = omega (arith, sized.each at) in
      ap₂ (λ (s : List ℕ) (k : ℕ). get_or s k 0) (append_assoc (f at) (pieces f (suc at) n) rest) later
      ∙ get_or-append-add (f at) (pieces f (suc at) n ++ rest) (width * e + i) 0
      ∙ piece_byte rest (suc at) n e i (omega arith) l
      ∙ ap (λ (k : ℕ). get_or (f k) i 0) (suc-add at e ∙ sym (add-suc at e))

  -- piece e as a whole
  pub piece_out : (rest : List ℕ) (at n e : ℕ) → e < n → take width (drop (width * e) (pieces f at n ++ rest)) ≡ f (at + e)
  unfolding pieces
  piece_out rest at zero e h = absurd (omega arith)
  piece_out rest at (suc n) zero h =
      let first : width * 0 ≡ 0 = omega arith in
      ap₂ (λ (s : List ℕ) (k : ℕ). take width (drop k s)) (append_assoc (f at) (pieces f (suc at) n) rest) first
      ∙ take_at (f at) (pieces f (suc at) n ++ rest) width (sized.each at)
      ∙ ap f (sym (add-zero at))
  piece_out rest at (suc n) (suc e) h =
      let later : width * suc e ≡ length (f at) + width * e = omega (arith, sized.each at) in
      ap₂ (λ (s : List ℕ) (k : ℕ). take width (drop k s)) (append_assoc (f at) (pieces f (suc at) n) rest) later
      ∙ ap (take width) (drop-append-add (f at) (pieces f (suc at) n ++ rest) (width * e))
      ∙ piece_out rest (suc at) n e (omega arith)
      ∙ ap f (suc-add at e ∙ sym (add-suc at e))

  -- a piece that is the bytes of a number, behind a head and before a rest: its bytes hold that number
  pub piece_word : (head rest : List ℕ) (start n e v : ℕ) → length head ≡ start → e < n → f e ≡ bytes_of width v → v < 2 ^ (8 * width)
      → field (head ++ pieces f 0 n ++ rest) (8 * (start + width * e)) (8 * width) ≡ v
  piece_word head rest start n e v long l same small =
      word_of_bytes (head ++ pieces f 0 n ++ rest) (start + width * e) width v byte ∙ mod-eq_of_lt small
    where
      byte : (i : ℕ) → i < width → get_or (head ++ pieces f 0 n ++ rest) (start + width * e + i) 0 ≡ get_or (bytes_of width v) i 0
      byte i b =
          let place : start + width * e + i ≡ length head + (width * e + i) = omega (arith, long) in
          ap₂ (λ (s : List ℕ) (k : ℕ). get_or s k 0) (append_assoc head (pieces f 0 n) rest) place
          ∙ get_or-append-add head (pieces f 0 n ++ rest) (width * e + i) 0
          ∙ piece_byte rest 0 n e i l b
          ∙ ap (λ (k : ℕ). get_or (f k) i 0) (zero-add e)
          ∙ ap (λ (s : List ℕ). get_or s i 0) same

  -- In a buffer
  pub standing_none : (buffer : List ℕ) (start : ℕ) → buffer ≡ standing f width buffer start 0
  unfolding pieces
  standing_none buffer start =
      let none : start + width * 0 ≡ start = omega arith in
      sym (rw (none, append-nil (take start buffer)) (take-append-drop start buffer))

  head_length : (buffer : List ℕ) (start i : ℕ) → start ≤ length buffer → length (take start buffer ++ pieces f 0 i) ≡ start + width * i
  head_length buffer start i h =
      length-append (take start buffer) (pieces f 0 i) ∙ ap₂ (λ (a b : ℕ). a + b) (length-take-le start buffer h) (pieces_length 0 i)

  pub standing_length : (buffer : List ℕ) (start i : ℕ) → start + width * i ≤ length buffer
      → length (standing f width buffer start i) ≡ length buffer
  standing_length buffer start i h =
      length-append (take start buffer ++ pieces f 0 i) (drop (start + width * i) buffer)
      ∙ omega (arith, head_length buffer start i (omega arith), length-drop (start + width * i) buffer)

  -- one piece more, put behind the first i
  pub standing_more : (buffer : List ℕ) (start at i : ℕ) {held piece after : List ℕ} → start ≤ length buffer → at ≡ start + width * i
      → held ≡ standing f width buffer start i → piece ≡ f i → after ≡ take at held ++ piece ++ drop (at + width) held
      → after ≡ standing f width buffer start (i + 1)
  standing_more buffer start at i {piece = piece} h e held-is piece_is put =
      put_behind buffer head piece at width long (held-is ∙ ap (λ (k : ℕ). head ++ drop k buffer) (sym e)) put
      ∙ ap₂ (λ (l : List ℕ) (k : ℕ). l ++ drop k buffer) (ap (λ (l : List ℕ). head ++ l) piece_is ∙ longer) next
    where
      head : List ℕ
      head = take start buffer ++ pieces f 0 i

      long : length head ≡ at
      long = head_length buffer start i h ∙ sym e

      longer : head ++ f i ≡ take start buffer ++ pieces f 0 (i + 1)
      longer = append_assoc (take start buffer) (pieces f 0 i) (f i) ∙ ap (λ (l : List ℕ). take start buffer ++ l) (sym (pieces_more f i))

      next : at + width ≡ start + width * (i + 1)
      next = omega (arith, e)

  -- pieces that are each their stretch of an image, from byte `start` on
  pub pieces_whole : (image : List ℕ) (start n : ℕ) → ((e : ℕ) → e < n → f e ≡ take width (drop (start + width * e) image))
      → pieces f 0 n ≡ take (width * n) (drop start image)
  unfolding pieces
  pieces_whole image start n same =
      let first : start + width * 0 ≡ start = omega arith in
      parts 0 n (omega arith) ∙ ap (λ (k : ℕ). take (width * n) (drop k image)) first
    where
      parts : (at k : ℕ) → at + k ≤ n → pieces f at k ≡ take (width * k) (drop (start + width * at) image)
      parts at zero l = let none : width * 0 ≡ 0 = omega arith in rw none
      parts at (suc k) l =
          let here = drop (start + width * at) image in
          let more : width + width * k ≡ width * suc k = omega arith in
          let next : start + width * at + width ≡ start + width * suc at = omega arith in
          let rest = drop-drop width (start + width * at) image ∙ ap (λ (j : ℕ). drop j image) next in
          ap₂ (λ (a b : List ℕ). a ++ b) (same at (omega arith)) (parts (suc at) k (omega arith) ∙ ap (take (width * k)) (sym rest))
          ∙ sym (take-add width (width * k) here)
          ∙ ap (λ (j : ℕ). take j here) more

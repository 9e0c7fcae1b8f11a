-- Bit fields of an image: most significant bit first, unpadded.
use Rattle.std.specs.Prelude.{Bool, cond, List, [], ◌∷◌, ℕ, zero, suc, ◌+◌, ◌-◌, ◌*◌, ◌/◌, ◌%◌, ◌^◌, eqb, get_or}

-- bit p of an image: of byte p / 8, the digit worth 2 ^ (7 - p % 8)
abbrev pub bit_at : List ℕ → ℕ → ℕ
bit_at image p = get_or image (p / 8) 0 / 2 ^ (7 - p % 8) % 2

-- the number in the `width` bits from bit p on
unfoldable pub field : List ℕ → ℕ → ℕ → ℕ
field image p zero = 0
field image p (suc width) = field image p width * 2 + bit_at image (p + width)

-- a field of one bit, as a flag
abbrev pub flag : List ℕ → ℕ → Bool
flag image p = eqb (field image p 1) 1

-- Writing. What was written before, with a field of `width` bits behind it
infixl 50 ◌▸◌
infix 55 ◌∶◌
pub record Field : Type 0 where
  pub width : ℕ
  pub value : ℕ

abbrev pub ◌∶◌ : ℕ → ℕ → Field
width ∶ value = record { width = width; value = value }

abbrev pub ◌▸◌ : ℕ → Field → ℕ
before ▸ f = before * 2 ^ f.width + f.value

-- a flag as a bit
abbrev pub bit : Bool → ℕ
bit b = cond b 1 0

-- a number as n bytes, high byte first
unfoldable pub bytes_of : ℕ → ℕ → List ℕ
bytes_of zero v = []
bytes_of (suc n) v = v / 256 ^ n % 256 ∷ bytes_of n v

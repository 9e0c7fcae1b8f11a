-- The header of an image, where reading begins: 1 under 4 bytes; 2 on its spare bits; 3 on its counts; 1.
use Rattle.std.specs.Prelude.{◌≡◌, Bool, not, ◌&&◌, List, ℕ, eqb, ltb, length}
use Rattle.rules.specs.Numbers.{◌if◌, ◌else◌}
use Rattle.rules.specs.Judge.{events_fit, relations_fit}
use Rattle.rules.specs.Image.{events_in, relations_in, firm_in, header_spare, table_length}

abbrev pub header_number : List ℕ → ℕ
header_number image =
    1 if ltb (length image) 4
    else 2 if not (eqb (header_spare image) 0)
    else 3 if not (events_fit (events_in image) && relations_fit (relations_in image))
    else 1 if not (eqb (length image) (table_length (events_in image) (relations_in image)))

-- what the header says, of an image that is as long as that
pub record SaysHeader (image : List ℕ) (events count : ℕ) (firm : Bool) : Type 0 where
  pub events_said : events ≡ events_in image
  pub count_said : count ≡ relations_in image
  pub firm_said : firm ≡ firm_in image
  pub exact : length image ≡ table_length events count

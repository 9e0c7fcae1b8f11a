-- Sleep: so many guarded ticks in one call, 0 to 1,000,000. The marking, and the list of caused events with the number of the tick before which
-- each was caused (the first is 1), are those of single guarded ticks. A run of ticks before which nothing falls due is passed in one go.
use Rattle.std.specs.Prelude.{List, [], ◌++◌, map, ℕ, zero, suc, ◌+◌, ◌*◌, ltb, length, drop}
use Rattle.rules.specs.declared.Table.{Table}
use Rattle.rules.specs.declared.Marking.{Marking}
use Rattle.rules.specs.CheckAnswer.{CheckAnswer, Refused}
use Rattle.rules.specs.Answers.{SleptAnswer}
use Rattle.rules.specs.Counting.{repeated}
use Rattle.rules.specs.Numbers.{◌if◌, ◌else◌, done, check_number, check_reason, check_place}
use Rattle.rules.specs.Judge.{judged}
use Rattle.rules.specs.Check.{verdict}
use Rattle.rules.specs.Guard.{caused, guarded}

-- one call passes at most so many ticks
abbrev pub most_ticks : ℕ
most_ticks = 1_000_000

-- the marking after n guarded ticks
unfoldable pub slept : Table → Marking → ℕ → Marking
slept t m n = repeated n (guarded t) m

-- a caused event, and the number of the tick before which it was caused
pub record Entry : Type 0 where
  pub tick : ℕ
  pub event : ℕ

abbrev pub entry : ℕ → ℕ → Entry
entry tick event = record { tick = tick; event = event }

-- the events that n guarded ticks cause, in order
unfoldable pub slept_caused : Table → Marking → ℕ → List Entry
slept_caused t m zero = []
slept_caused t m (suc n) = slept_caused t m n ++ map (entry (suc n)) (caused t (slept t m n))

-- 14 when the ticks are above the limit, then 12, with reason and place, at 0 ticks too
unfoldable pub sleep_check : Table → Marking → ℕ → CheckAnswer
sleep_check t m ticks = let number = judged t m else 14 if ltb most_ticks ticks in done number (verdict t m) (Refused number)

-- then 14 when the caused list does not fit
unfoldable pub sleep_number : Table → Marking → ℕ → ℕ → ℕ
sleep_number t m ticks room = check_number (sleep_check t m ticks) else 14 if ltb room (length (slept_caused t m ticks))

unfoldable pub sleep_answer : Table → Marking → ℕ → ℕ → SleptAnswer
sleep_answer t m ticks room =
    let checked = sleep_check t m ticks in
    let number = sleep_number t m ticks room in
    record {
      number = number;
      reason = check_reason checked;
      place = check_place checked;
      count = done number (length (slept_caused t m ticks)) 0;
      marking = done number (slept t m ticks) m;
    }

-- a place of the lent list: tick and event in one number
abbrev pub place_of : Entry → ℕ
place_of e = 256 * e.tick + e.event

abbrev pub places_of : List Entry → List ℕ
places_of entries = map place_of entries

-- what the lent list holds afterwards: the caused events first, and later places stay
unfoldable pub sleep_list : Table → Marking → ℕ → List ℕ → List ℕ
sleep_list t m ticks list =
    done (sleep_number t m ticks (length list)) (places_of (slept_caused t m ticks) ++ drop (length (slept_caused t m ticks)) list) list

-- a list with its tick numbers moved by so many
abbrev pub moved : ℕ → List Entry → List Entry
moved ticks entries = map (λ e. entry (ticks + e.tick) e.event) entries

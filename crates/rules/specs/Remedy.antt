-- Two offered remedies. A start of a list discharges if each of its events in turn exists, is causable and is enabled, and no event is due
-- after it. The answer is the shortest start that discharges, of the preferred list if it has one, else of the fallback. The marking is
-- untouched.
use Rattle.std.specs.Prelude.{Bool, true, false, not, ◌&&◌, ◌||◌, cond, List, [], ◌∷◌, ℕ, suc, leb, ltb, length, take}
use Rattle.rules.specs.declared.Table.{Table}
use Rattle.rules.specs.declared.Marking.{Marking}
use Rattle.rules.specs.Answers.{RemedyAnswer}
use Rattle.rules.specs.Counting.{lowest}
use Rattle.rules.specs.Numbers.{◌if◌, ◌else◌, done}
use Rattle.rules.specs.Holds.{is_causable}
use Rattle.rules.specs.Judge.{judged}
use Rattle.rules.specs.Enabled.{is_enabled}
use Rattle.rules.specs.Effect.{effect}
use Rattle.rules.specs.Time.{any_due}

-- each event in turn exists, is causable and is enabled
unfoldable pub in_turn : Table → Marking → List ℕ → Bool
in_turn t m [] = true
in_turn t m (e ∷ rest) = ltb e t.events && is_causable t e && is_enabled t m e && in_turn t (effect t m e) rest

-- the marking after the events of a list
unfoldable pub effects : Table → Marking → List ℕ → Marking
effects t m [] = m
effects t m (e ∷ rest) = effects t (effect t m e) rest

unfoldable pub discharges : Table → Marking → List ℕ → Bool
discharges t m start = in_turn t m start && not (any_due (effects t m start))

-- the length of the shortest start that discharges; one more than the list has where there is none
unfoldable pub shortest : Table → Marking → List ℕ → ℕ
shortest t m list = lowest (suc (length list)) (λ n. discharges t m (take n list))

abbrev pub has_start : Table → Marking → List ℕ → Bool
has_start t m list = leb (shortest t m list) (length list)

-- an offered list has at most so many events
abbrev pub longest_list : ℕ
longest_list = 255

-- 14, 13
unfoldable pub remedy_number : Table → Marking → List ℕ → List ℕ → ℕ
remedy_number t m preferred fallback =
    14 if (ltb longest_list (length preferred) || ltb longest_list (length fallback))
    else 13 if not (has_start t m preferred || has_start t m fallback)

unfoldable pub remedy : Table → Marking → List ℕ → List ℕ → RemedyAnswer
remedy t m preferred fallback =
    let number = judged t m else remedy_number t m preferred fallback in
    let second = not (has_start t m preferred) in
    record {
      number = number;
      fallback = done number second false;
      length = done number (cond second (shortest t m fallback) (shortest t m preferred)) 0;
    }

-- the stretch of the operator's own list that is handed back; empty in a refusal
abbrev pub stretch : RemedyAnswer → List ℕ → List ℕ → List ℕ
stretch answer preferred fallback = take answer.length (cond answer.fallback fallback preferred)

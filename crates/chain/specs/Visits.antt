-- What a visit goes by, and what it leaves behind, in words.
use Rattle.std.specs.Prelude.{◌≡◌, Bool, true, false, cond, List, [], ◌∷◌, ℕ, Option, Some, None, suc, ◌+◌, ◌<◌, ◌≤◌, ltb, length, get_or, set}
use Rattle.rules.specs.declared.Table.{Table}
use Rattle.rules.specs.declared.Marking.{Marking}
use Rattle.rules.specs.Holds.{relation_of}
use Rattle.rules.specs.Enabled.{blocks}
use Rattle.rules.specs.Chain.{Link, Visit, nothing, led_to, visit, place_of}
use Rattle.rules.specs.Shapes.Good.{GoodTable}
use Rattle.chain.specs.declared.stops.Stop.{Stop}
use Rattle.chain.specs.declared.stops.Visits.{Visits}
use Rattle.chain.specs.declared.stops.Walk.{Walk}
use Rattle.chain.specs.Stops.{stop_of}

-- k is the first number from `from` on at which f holds, among those below n
pub record Found (f : ℕ → Bool) (n from k : ℕ) : Type 0 where
  pub on : from ≤ k
  pub within : k < n
  pub here : f k ≡ true
  pub before : (j : ℕ) → from ≤ j → j < k → f j ≡ false

-- the first such number, or none
abbrev pub First : (ℕ → Bool) → ℕ → ℕ → Option ℕ → Type 0
First f n from None = (j : ℕ) → from ≤ j → j < n → f j ≡ false
First f n from (Some k) = Found f n from k

-- the first relation that blocks an event
abbrev pub first_of : List (Option ℕ) → ℕ → Option ℕ
first_of firsts e = get_or firsts e None

-- so far: of the relations from `from` on
pub record VisitsFrom (t : Table) (m : Marking) (from : ℕ) (firsts : List (Option ℕ)) (stops : List Stop) : Type 0 where
  pub firsts_told : (e : ℕ) → e < 64 → First (blocks t m e) t.count from (first_of firsts e)
  pub nexts_told : (e k : ℕ) → e < 64 → from ≤ k → k < t.count → blocks t m e k ≡ true
      → First (blocks t m e) t.count (suc k) (stop_of stops k).next
  pub rights_told : (k : ℕ) → from ≤ k → k < t.count → (stop_of stops k).right ≡ (relation_of t k).right

abbrev pub VisitsOf : Table → Marking → Visits → Type 0
VisitsOf t m visits = GoodTable t × VisitsFrom t m 0 visits.firsts visits.stops

-- what the visit of an event makes of a relation, going down at most f events
abbrev pub step : Table → Marking → ℕ → ℕ → ℕ → ℕ → ℕ → Visit
step t m f d e k opened = cond (blocks t m e k) (led_to k d (visit t m f (suc d) (relation_of t k).right opened)) (nothing opened)

-- The opened events, how many links are noted, and the list that they are noted in
pub record State : Type 0 where
  pub opened : ℕ
  pub count : ℕ
  pub list : List ℕ

abbrev pub state_of : Walk → List ℕ → State
state_of w list = record { opened = w.opened; count = w.count; list = list }

-- a link is noted at the next place, if the list has one
unfoldable pub noted : Link → State → State
noted l s =
    cond (ltb s.count (length s.list))
    (record { opened = s.opened; count = s.count + 1; list = set s.list s.count (place_of l) }) s

unfoldable pub notes : List Link → State → State
notes [] s = s
notes (l ∷ rest) s = notes rest (noted l s)

-- what a visit makes of it
abbrev pub with_opened : ℕ → State → State
with_opened opened s = record { opened = opened; count = s.count; list = s.list }

unfoldable pub carried : Visit → State → State
carried v s = with_opened v.opened (notes v.links s)

-- What the marking that words stand for has at its events, and how a change of it place by place is a change of the words. Assumes nothing.
use Rattle.std.specs.Prelude.{◌≡◌, Bool, true, false, cond, length, get_or, set}
use Rattle.std.proofs.Math.Path.{refl, ap}
use Rattle.std.proofs.Common.{◌∙◌, ap₂, zero-add, arith, lt-ltb, le-ltb}
use mathlib.Core.List.{List, [], ◌∷◌, ◌++◌}
use Prim.Native.Nat.{ℕ, zero, suc, ◌<◌, ◌≤◌, ◌+◌, ◌-◌, min}
use Rattle.std.proofs.Math.ListN.{get_or-append}
use Rattle.rules.specs.declared.Record.{Record}
use Rattle.rules.specs.declared.Marking.{Marking}
use Rattle.rules.specs.Counting.{places, places_from, each_below, below_from}
use Rattle.rules.specs.EventSet.{has}
use Rattle.rules.specs.Holds.{limit, empty_record, record_of, with_records}
use Rattle.rules.specs.Time.{later, time}
use Rattle.rules.proofs.Laws.Counting.{length_places, places_at}
use Rattle.acts.specs.Stands.{age_at, ticks_at, record_in, marking_in, Stands}

-- a change of the first n places of a list that has r there makes a list that has s there, if it makes each place of s out of that of r
module _ {A : Type 0} (n : ℕ) (f : ℕ → A → A) (r s : ℕ → A) (tail : List A) (made : (x : ℕ) → x < n → f x (r x) ≡ s x) where
  past : (at : ℕ) (l : List A) → n ≤ at → below_from at n f l ≡ l
  unfolding below_from
  past at [] b = refl
  past at (a ∷ l) b = rw (le-ltb at n b) (ap {B = List A} (λ rest. a ∷ rest) (past (suc at) l (omega arith)))

  from : (at k : ℕ) → at + k ≡ n → below_from at n f (places_from at k r ++ tail) ≡ places_from at k s ++ tail
  unfolding below_from places_from
  from at zero e = past at tail (omega arith)
  from at (suc k) e = rw (lt-ltb at n (omega arith)) (ap₂ ◌∷◌ (made at (omega arith)) (from (suc at) k (omega arith)))

  pub each_below_places : each_below n f (places n r ++ tail) ≡ places n s ++ tail
  each_below_places = from 0 n (zero-add n)

module _ (n : ℕ) (tail : List Record) (clock : ℕ) (sets columns : List ℕ) (m : Marking) (stands : Stands n tail clock sets columns m) where
  pub stands_events : m.events ≡ n
  unfolding marking_in
  stands_events = ap {B = ℕ} (λ (k : Marking). k.events) stands.is

  stands_records : m.records ≡ places n (record_in clock sets columns) ++ tail
  unfolding marking_in
  stands_records = ap {B = List Record} (λ (k : Marking). k.records) stands.is

  -- the record of an event
  pub stands_at : (x : ℕ) → x < n → record_of m x ≡ record_in clock sets columns x
  stands_at x b =
      ap {B = Record} (λ rs. get_or rs x empty_record) stands_records
      ∙ get_or-append (places n (record_in clock sets columns)) tail empty_record x (omega (arith, b, length_places (record_in clock sets columns) n))
      ∙ places_at (record_in clock sets columns) n x empty_record b

  -- a change of each record, and words that have the changed records
  pub each_stands : (f : ℕ → Record → Record) (clock2 : ℕ) (sets2 columns2 : List ℕ) → length sets2 ≡ 4 → length columns2 ≡ 192
      → ((x : ℕ) → x < n → get_or columns2 x 0 ≤ clock2 + limit)
      → ((x : ℕ) → x < n → f x (record_in clock sets columns x) ≡ record_in clock2 sets2 columns2 x)
      → Stands n tail clock2 sets2 columns2 (with_records m (each_below m.events f m.records))
  unfolding marking_in
  each_stands f clock2 sets2 columns2 four three begun made = record {
    few = stands.few;
    four_sets = four;
    three_columns = three;
    ages_begun = begun;
    is =
        rw (stands_events, stands_records)
        (ap {B = Marking} (λ rs. record { records = rs; events = n })
        (each_below_places n f (record_in clock sets columns) (record_in clock2 sets2 columns2) tail made));
  }

-- four sets that are written one after the other
abbrev pub four_of : List ℕ → ℕ → ℕ → ℕ → ℕ → List ℕ
four_of sets happened included pending bounded = set (set (set (set sets 0 happened) 1 included) 2 pending) 3 bounded

pub four : (sets : List ℕ) (happened included pending bounded : ℕ) → length sets ≡ 4
    → let after = four_of sets happened included pending bounded in
    (get_or after 0 0 ≡ happened) × (get_or after 1 0 ≡ included) × (get_or after 2 0 ≡ pending) × (get_or after 3 0 ≡ bounded) × (length after ≡ 4)
four [] happened included pending bounded size = absurd (omega arith)
four (a ∷ []) happened included pending bounded size = absurd (omega arith)
four (a ∷ (b ∷ [])) happened included pending bounded size = absurd (omega arith)
four (a ∷ (b ∷ (c ∷ []))) happened included pending bounded size = absurd (omega arith)
four (a ∷ (b ∷ (c ∷ (d ∷ rest)))) happened included pending bounded size = (refl, refl, refl, refl, size)

-- a record one tick later is the one that is read one tick later
under : (so : Bool) (f : ℕ → ℕ) (a b : ℕ) → f a ≡ b → cond so (f (cond so a 0)) (cond so a 0) ≡ cond so b 0
under true f a b e = e
under false f a b e = refl

-- an age grows, and is held at the limit; a deadline falls
aged : (full clock : ℕ) → full ≤ clock + limit → min (limit - (full - clock) + 1) limit ≡ limit - (full - (clock + 1))
aged full clock begun = omega arith

passed : (until clock : ℕ) → until - clock - 1 ≡ until - (clock + 1)
passed until clock = omega arith

later_at : (clock : ℕ) (sets columns : List ℕ) (x : ℕ) → get_or columns x 0 ≤ clock + limit
    → later (record_in clock sets columns x) ≡ record_in (clock + 1) sets columns x
unfolding later record_in
later_at clock sets columns x begun =
    let happened = has (get_or sets 0 0) x in
    let included = has (get_or sets 1 0) x in
    let pending = has (get_or sets 2 0) x in
    let bounded = has (get_or sets 3 0) x in
    let count = get_or columns (128 + x) 0 in
    ap₂ (λ (a d : ℕ). record { age = a; deadline = d; happened = happened; included = included; pending = pending; bounded = bounded; count = count })
    (under happened (λ a. min (a + 1) limit) (age_at clock columns x) (age_at (clock + 1) columns x) (aged _ clock begun))
    (under bounded (λ d. d - 1) (ticks_at clock columns x) (ticks_at (clock + 1) columns x) (passed _ clock))

pub tick_stands : (n : ℕ) (tail : List Record) (clock : ℕ) (sets columns : List ℕ) (m : Marking) → Stands n tail clock sets columns m
    → Stands n tail (clock + 1) sets columns (time m)
unfolding time
tick_stands n tail clock sets columns m stands =
    each_stands n tail clock sets columns m stands (λ x. later) (clock + 1) sets columns stands.four_sets stands.three_columns
    (λ x b. omega (arith, stands.ages_begun x b))
    (λ x b. later_at clock sets columns x (stands.ages_begun x b))

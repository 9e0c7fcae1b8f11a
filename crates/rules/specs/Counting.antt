-- Words of counting that the rules are written in: every, some, the lowest, how many, how often, again and again, a list by its places.
use Rattle.std.specs.Prelude.{Bool, true, false, ◌&&◌, ◌||◌, cond, List, [], ◌∷◌, ℕ, zero, suc, ◌+◌, eqb, ltb}

-- f holds at every number below n
unfoldable pub every : ℕ → (ℕ → Bool) → Bool
every zero f = true
every (suc k) f = every k f && f k

-- f holds at some number below n
unfoldable pub some : ℕ → (ℕ → Bool) → Bool
some zero f = false
some (suc k) f = some k f || f k

-- the lowest number below n at which f holds; n where there is none
unfoldable pub lowest : ℕ → (ℕ → Bool) → ℕ
lowest zero f = zero
lowest (suc k) f = let found = lowest k f in cond (ltb found k) found (cond (f k) k (suc k))

-- at how many numbers below n f holds
unfoldable pub how_many : ℕ → (ℕ → Bool) → ℕ
how_many zero f = zero
how_many (suc k) f = how_many k f + cond (f k) 1 0

-- how often x is in a list
unfoldable pub times : ℕ → List ℕ → ℕ
times x [] = 0
times x (e ∷ rest) = cond (eqb x e) (suc (times x rest)) (times x rest)

module _ {A : Type 0} where
  -- f, n times over
  unfoldable pub repeated : ℕ → (A → A) → A → A
  repeated zero f a = a
  repeated (suc k) f a = f (repeated k f a)

  -- f at the n places from `at` on
  unfoldable pub places_from : ℕ → ℕ → (ℕ → A) → List A
  places_from at zero f = []
  places_from at (suc k) f = f at ∷ places_from (suc at) k f

  -- f at the places 0, 1, .., n - 1
  abbrev pub places : ℕ → (ℕ → A) → List A
  places n f = places_from 0 n f

  -- a list of which place `at` comes first, with f applied below place n, and the places from n on kept
  unfoldable pub below_from : ℕ → ℕ → (ℕ → A → A) → List A → List A
  below_from at n f [] = []
  below_from at n f (a ∷ rest) = cond (ltb at n) (f at a) a ∷ below_from (suc at) n f rest

  -- f applied to each place below n, which is told its number; the places past the count are kept
  abbrev pub each_below : ℕ → (ℕ → A → A) → List A → List A
  each_below n f l = below_from 0 n f l

-- Laws of the words of counting: how each is come by, what it gives, and the step that a loop takes. Assumes nothing.
use Rattle.std.specs.Prelude.{◌≡◌, Bool, ◌||◌, ◌⊎◌, ltb, get_or, length, set}
use Rattle.std.proofs.Math.Path.{refl, ap}
use Rattle.std.proofs.Common.{◌∙◌, sym, subst, true≢false, le_of_suc-le-suc, zero-add, add-suc, length-append, ext_get_or, get_or-append-add}
use Rattle.std.proofs.Math.Bool.{true, false, cond}
use mathlib.Core.List.{List, [], ◌∷◌, ◌++◌, map}
use Rattle.std.proofs.Math.Logic.{⊎_elim, inl, inr}
use Prim.Native.Nat.{ℕ, zero, suc, ◌<◌, ◌≤◌, ◌+◌, ◌-◌}
use Rattle.std.proofs.Math.Nat.{add-zero}
use Rattle.std.proofs.Math.Numerals.{add-one}
use native.Mathlib.Omega.{arith}
use Rattle.std.proofs.Math.ListN.{replicate, get_or-append}
use borrow.Author.Tests.{ltb-true, ltb-false, lt-ltb, le-ltb}
use Rattle.rules.specs.Counting.{every, some, lowest, how_many, repeated, places_from, places, below_from, each_below}
use Rattle.rules.proofs.Laws.Tests.{clash, denied, both, either, or_right, last_or_below}

-- every
module _ (f : ℕ → Bool) where
  pub every_at : (n x : ℕ) → every n f ≡ true → x < n → f x ≡ true
  unfolding every
  every_at zero x h b = absurd (omega arith)
  every_at (suc n) x h b =
      let p = both (every n f) (f n) h in
      ⊎_elim (λ (q : x ≡ n). rw q p.1) (λ (l : x < n). every_at n x p.0 l) (last_or_below b)

-- some
module _ (f : ℕ → Bool) where
  pub some_where : (n : ℕ) → some n f ≡ true → (x : ℕ) × (x < n) × (f x ≡ true)
  unfolding some
  some_where zero h = absurd (true≢false (sym h))
  some_where (suc n) h = go (some_where n) (either (some n f) (f n) h)
    where
      go : (some n f ≡ true → (x : ℕ) × (x < n) × (f x ≡ true)) → (some n f ≡ true) ⊎ (f n ≡ true) → (x : ℕ) × (x < suc n) × (f x ≡ true)
      go ih (inl e) = let r = ih e in (r.0, omega (arith, r.1), r.2)
      go ih (inr e) = (n, omega arith, e)

  pub some_at : (n x : ℕ) → x < n → f x ≡ true → some n f ≡ true
  unfolding some
  some_at zero x b h = absurd (omega arith)
  some_at (suc n) x b h =
      ⊎_elim
      (λ (q : x ≡ n). or_right (some n f) (f n) (rw q at h))
      (λ (l : x < n). rw (some_at n x l h))
      (last_or_below b)

  pub some_not : (n x : ℕ) → some n f ≡ false → x < n → f x ≡ false
  some_not n x h b = denied (f x) (λ e. clash (some_at n x b e) h)

  pub some_false : (n : ℕ) → ((x : ℕ) → x < n → f x ≡ false) → some n f ≡ false
  unfolding some
  some_false zero h = refl
  some_false (suc n) h = rw (some_false n (λ x l. h x (omega arith)), h n (omega arith))

  pub some_none : some 0 f ≡ false
  unfolding some
  some_none = refl

  pub some_more : (i : ℕ) → some (i + 1) f ≡ (some i f || f i)
  unfolding some
  some_more i = rw add-one

pub some_same : (f g : ℕ → Bool) (n : ℕ) → ((x : ℕ) → x < n → f x ≡ g x) → some n f ≡ some n g
unfolding some
some_same f g zero h = refl
some_same f g (suc n) h = rw (some_same f g n (λ x l. h x (omega arith)), h n (omega arith))

-- the lowest
pub record Found (f : ℕ → Bool) (n r : ℕ) : Type 0 where
  pub small : r < n
  pub holds : f r ≡ true
  pub first : (y : ℕ) → y < r → f y ≡ false

pub record Lacks (f : ℕ → Bool) (n r : ℕ) : Type 0 where
  pub whole : r ≡ n
  pub nowhere : (y : ℕ) → y < n → f y ≡ false

module _ (f : ℕ → Bool) where
  pub lowest_cases : (n : ℕ) → Found f n (lowest n f) ⊎ Lacks f n (lowest n f)
  unfolding lowest
  lowest_cases zero = inr (record { whole = refl; nowhere = λ y l. absurd (omega arith) })
  lowest_cases (suc n) = go (lowest n f) (lowest_cases n)
    where
      here : (b : Bool) → f n ≡ b → ((y : ℕ) → y < n → f y ≡ false) → Found f (suc n) (cond b n (suc n)) ⊎ Lacks f (suc n) (cond b n (suc n))
      here true e h = inl (record { small = omega arith; holds = e; first = h })
      here false e h = inr (record { whole = refl; nowhere = λ y l. ⊎_elim (λ (q : y ≡ n). ap f q ∙ e) (λ (b : y < n). h y b) (last_or_below l) })

      at : (r : ℕ) (b : Bool) → ltb r n ≡ b → Found f n r ⊎ Lacks f n r
          → Found f (suc n) (cond b r (cond (f n) n (suc n))) ⊎ Lacks f (suc n) (cond b r (cond (f n) n (suc n)))
      at r true e (inl d) = inl (record { small = omega (arith, d.small); holds = d.holds; first = d.first })
      at r true e (inr d) = absurd (omega (arith, ltb-true r n e, d.whole))
      at r false e (inl d) = absurd (omega (arith, ltb-false r n e, d.small))
      at r false e (inr d) = here (f n) refl d.nowhere

      go : (r : ℕ) → Found f n r ⊎ Lacks f n r → Found f (suc n) (cond (ltb r n) r (cond (f n) n (suc n)))
          ⊎ Lacks f (suc n) (cond (ltb r n) r (cond (f n) n (suc n)))
      go r d = at r (ltb r n) refl d

  pub lowest_le : (n : ℕ) → lowest n f ≤ n
  lowest_le n = ⊎_elim (λ d. omega (arith, d.small)) (λ d. omega (arith, d.whole)) (lowest_cases n)

  -- before the lowest it holds nowhere
  pub lowest_before : (n y : ℕ) → y < lowest n f → f y ≡ false
  lowest_before n y before = ⊎_elim (λ d. d.first y before) (λ d. d.nowhere y (rw d.whole at before)) (lowest_cases n)

  -- a number below n at which f holds, and below which it does not, is the lowest
  pub lowest_is : (n x : ℕ) → x < n → f x ≡ true → ((y : ℕ) → y < x → f y ≡ false) → lowest n f ≡ x
  lowest_is n x b h below =
      ⊎_elim
      (λ d. one (lowest n f) d.small d.holds d.first)
      (λ d. absurd (clash h (d.nowhere x b)))
      (lowest_cases n)
    where
      one : (r : ℕ) → r < n → f r ≡ true → ((y : ℕ) → y < r → f y ≡ false) → r ≡ x
      one r l e first = same (ltb r x) (ltb x r) refl refl
        where
          same : (a c : Bool) → ltb r x ≡ a → ltb x r ≡ c → r ≡ x
          same true c p q = absurd (clash e (below r (ltb-true r x p)))
          same false true p q = absurd (clash h (first x (ltb-true x r q)))
          same false false p q = omega (arith, ltb-false r x p, ltb-false x r q)

  pub lowest_none : (n : ℕ) → ((y : ℕ) → y < n → f y ≡ false) → lowest n f ≡ n
  lowest_none n h = ⊎_elim (λ d. absurd (clash d.holds (h (lowest n f) d.small))) (λ d. d.whole) (lowest_cases n)

  -- a loop that has found nothing below i looks at i
  pub lowest_zero : lowest 0 f ≡ 0
  unfolding lowest
  lowest_zero = refl

  pub lowest_more : (i : ℕ) → lowest i f ≡ i → f i ≡ false → lowest (i + 1) f ≡ i + 1
  unfolding lowest
  lowest_more i e h = rw (add-one, e, le-ltb i i (omega arith), h)

  pub lowest_here : (i n : ℕ) → i < n → lowest i f ≡ i → f i ≡ true → lowest n f ≡ i
  lowest_here i n b e h =
      lowest_is n i b h
      (λ y l. ⊎_elim (λ d. absurd (omega (arith, d.small, e))) (λ d. d.nowhere y l) (lowest_cases i))

pub lowest_same : (f g : ℕ → Bool) (n : ℕ) → ((x : ℕ) → x < n → f x ≡ g x) → lowest n f ≡ lowest n g
unfolding lowest
lowest_same f g zero h = refl
lowest_same f g (suc n) h = rw (lowest_same f g n (λ x l. h x (omega arith)), h n (omega arith))

-- some, and the lowest, say the same
pub lowest_some : (f : ℕ → Bool) (n : ℕ) → ltb (lowest n f) n ≡ some n f
lowest_some f n =
    ⊎_elim
    (λ d. lt-ltb (lowest n f) n d.small ∙ sym (some_at f n (lowest n f) d.small d.holds))
    (λ d. le-ltb (lowest n f) n (omega (arith, d.whole)) ∙ sym (some_false f n d.nowhere))
    (lowest_cases f n)

-- how many
pub many_le : (f : ℕ → Bool) (n : ℕ) → how_many n f ≤ n
unfolding how_many
many_le f zero = omega arith
many_le f (suc n) = go (f n) (many_le f n)
  where
    go : (b : Bool) → how_many n f ≤ n → how_many n f + cond b 1 0 ≤ suc n
    go true h = omega arith
    go false h = omega arith

module _ (f g : ℕ → Bool) (within : (y : ℕ) → f y ≡ true → g y ≡ true) where
  pub many_mono : (n : ℕ) → how_many n f ≤ how_many n g
  unfolding how_many
  many_mono zero = omega arith
  many_mono (suc n) = go (f n) (g n) refl refl (many_mono n)
    where
      go : (a b : Bool) → f n ≡ a → g n ≡ b → how_many n f ≤ how_many n g → how_many n f + cond a 1 0 ≤ how_many n g + cond b 1 0
      go true true p q h = omega arith
      go true false p q h = absurd (clash (within n p) q)
      go false true p q h = omega arith
      go false false p q h = omega arith

  -- one member more: a larger number
  pub many_lt : (n x : ℕ) → x < n → f x ≡ false → g x ≡ true → how_many n f < how_many n g
  unfolding how_many
  many_lt zero x b p q = absurd (omega arith)
  many_lt (suc n) x b p q =
      ⊎_elim (λ (e : x ≡ n). top (rw e at p) (rw e at q)) (λ (l : x < n). go (f n) (g n) refl refl (many_lt n x l p q)) (last_or_below b)
    where
      top : f n ≡ false → g n ≡ true → how_many n f + cond (f n) 1 0 < how_many n g + cond (g n) 1 0
      top p q = rw (p, q) (omega (arith, many_mono n))

      go : (a b : Bool) → f n ≡ a → g n ≡ b → how_many n f < how_many n g → how_many n f + cond a 1 0 < how_many n g + cond b 1 0
      go true true p q h = omega arith
      go true false p q h = absurd (clash (within n p) q)
      go false true p q h = omega arith
      go false false p q h = omega arith

-- again and again: a step that only grows changes nothing any more after as many times as there is room to grow
module _ {A : Type 0} (f : A → A) (size : A → ℕ) (room : ℕ) (Fine : A → Type 0)
    (keeps : (a : A) → Fine a → Fine (f a))
    (fits : (a : A) → Fine a → size a ≤ room)
    (grows : (a : A) → Fine a → (f a ≡ a) ⊎ (size a < size (f a)))
  where
    pub repeated_fine : (n : ℕ) (a : A) → Fine a → Fine (repeated n f a)
    unfolding repeated
    repeated_fine zero a o = o
    repeated_fine (suc n) a o = keeps (repeated n f a) (repeated_fine n a o)

    still_or_large : (n : ℕ) (a : A) → Fine a → (f (repeated n f a) ≡ repeated n f a) ⊎ (n < size (f (repeated n f a)))
    unfolding repeated
    still_or_large zero a o = ⊎_elim (λ e. inl e) (λ l. inr (omega arith)) (grows a o)
    still_or_large (suc n) a o =
        ⊎_elim
        (λ (e : f (repeated n f a) ≡ repeated n f a). inl (ap f e))
        (λ (l : n < size (f (repeated n f a))). ⊎_elim (λ e. inl e) (λ g. inr (omega arith)) (grows (f (repeated n f a)) (repeated_fine (suc n) a o)))
        (still_or_large n a o)

    pub repeated_still : (a : A) → Fine a → f (repeated room f a) ≡ repeated room f a
    repeated_still a o =
        ⊎_elim
        (λ e. e)
        (λ (l : room < size (f (repeated room f a))). absurd (omega (arith, fits (f (repeated room f a)) (keeps _ (repeated_fine room a o)))))
        (still_or_large room a o)

-- what holds of the start, and is kept by the step, holds at the end
pub repeated_keeps : {A : Type 0} (f : A → A) (P : A → Type 0) → ((a : A) → P a → P (f a)) → (n : ℕ) (a : A) → P a → P (repeated n f a)
unfolding repeated
repeated_keeps f P keeps zero a p = p
repeated_keeps f P keeps (suc n) a p = keeps (repeated n f a) (repeated_keeps f P keeps n a p)

-- and of two starts, what each step keeps
pub repeated_both : {A B : Type 0} (f : A → A) (g : B → B) (P : A → B → Type 0) → ((a : A) (b : B) → P a b → P (f a) (g b)) → (n : ℕ) (a : A) (b : B)
    → P a b → P (repeated n f a) (repeated n g b)
unfolding repeated
repeated_both f g P keeps zero a b p = p
repeated_both f g P keeps (suc n) a b p = keeps (repeated n f a) (repeated n g b) (repeated_both f g P keeps n a b p)

-- so often, and then so often again
pub repeated_adds : {A : Type 0} (f : A → A) (a : A) (m n : ℕ) → repeated (m + n) f a ≡ repeated n f (repeated m f a)
unfolding repeated
repeated_adds f a m zero = ap (λ (k : ℕ). repeated k f a) (add-zero m)
repeated_adds f a m (suc n) = ap (λ (k : ℕ). repeated k f a) (add-suc m n) ∙ ap f (repeated_adds f a m n)

-- lists by their places
module _ {A : Type 0} (f : ℕ → A) where
  pub length_places_from : (at n : ℕ) → length (places_from at n f) ≡ n
  unfolding places_from
  length_places_from at zero = refl
  length_places_from at (suc n) = ap suc (length_places_from (suc at) n)

  pub length_places : (n : ℕ) → length (places n f) ≡ n
  length_places n = length_places_from 0 n

  places_from_at : (at n i : ℕ) (d : A) → i < n → get_or (places_from at n f) i d ≡ f (at + i)
  unfolding places_from
  places_from_at at zero i d b = absurd (omega arith)
  places_from_at at (suc n) zero d b = rw add-zero
  places_from_at at (suc n) (suc i) d b = places_from_at (suc at) n i d (le_of_suc-le-suc b) ∙ ap f (omega arith)

  pub places_at : (n i : ℕ) (d : A) → i < n → get_or (places n f) i d ≡ f i
  places_at n i d b = places_from_at 0 n i d b ∙ ap f (zero-add i)

  places_from_snoc : (at n : ℕ) → places_from at (suc n) f ≡ places_from at n f ++ (f (at + n) ∷ [])
  unfolding places_from
  places_from_snoc at zero = rw add-zero
  places_from_snoc at (suc n) =
      ap {B = List A} (λ l. f at ∷ l) (places_from_snoc (suc at) n ∙ ap {B = List A} (λ k. places_from (suc at) n f ++ (f k ∷ [])) (omega arith))

  -- one place more
  pub places_more : (n : ℕ) → places (n + 1) f ≡ places n f ++ (f n ∷ [])
  places_more n = rw (add-one) (places_from_snoc 0 n ∙ ap {B = List A} (λ k. places n f ++ (f k ∷ [])) (zero-add n))

-- filling: places written from 0 on in a list that had d everywhere
module _ {A : Type 0} (f : ℕ → A) (d : A) where
  set_append : (l : List A) (r : List A) (a v : A) → set (l ++ (a ∷ r)) (length l) v ≡ l ++ (v ∷ r)
  set_append [] r a v = refl
  set_append (x ∷ l) r a v = ap {B = List A} (λ m. x ∷ m) (set_append l r a v)

  append_one : (l r : List A) (v : A) → (l ++ (v ∷ [])) ++ r ≡ l ++ (v ∷ r)
  append_one [] r v = refl
  append_one (x ∷ l) r v = ap {B = List A} (λ m. x ∷ m) (append_one l r v)

  pub filled_none : (n : ℕ) → replicate n d ≡ places 0 f ++ replicate (n - 0) d
  unfolding places_from
  filled_none n = let e : n ≡ n - 0 = omega arith in ap {B = List A} (λ k. replicate k d) e

  pub filled_more : (n i : ℕ) → i < n → set (places i f ++ replicate (n - i) d) i (f i) ≡ places (i + 1) f ++ replicate (n - (i + 1)) d
  filled_more n i b =
      let e : n - i ≡ suc (n - (i + 1)) = omega arith in
      ap {B = List A} (λ k. set (places i f ++ replicate k d) i (f i)) e
      ∙ ap {B = List A} (λ k. set (places i f ++ (d ∷ replicate (n - (i + 1)) d)) k (f i)) (sym (length_places f i))
      ∙ set_append (places i f) (replicate (n - (i + 1)) d) d (f i)
      ∙ sym (append_one (places i f) (replicate (n - (i + 1)) d) (f i))
      ∙ ap {B = List A} (λ l. l ++ replicate (n - (i + 1)) d) (sym (places_more f i))

-- a change applied below a count, the places past it kept
module _ {A : Type 0} where
  below_from_length : (at n : ℕ) (f : ℕ → A → A) (l : List A) → length (below_from at n f l) ≡ length l
  unfolding below_from
  below_from_length at n f [] = refl
  below_from_length at n f (a ∷ l) = ap suc (below_from_length (suc at) n f l)

  pub length_each_below : (n : ℕ) (f : ℕ → A → A) (l : List A) → length (each_below n f l) ≡ length l
  length_each_below n f l = below_from_length 0 n f l

  below_from_at : (at n : ℕ) (f : ℕ → A → A) (l : List A) (i : ℕ) (d : A) → i < length l
      → get_or (below_from at n f l) i d ≡ cond (ltb (at + i) n) (f (at + i) (get_or l i d)) (get_or l i d)
  unfolding below_from
  below_from_at at n f [] i d b = absurd (omega arith)
  below_from_at at n f (a ∷ l) zero d b = rw add-zero
  below_from_at at n f (a ∷ l) (suc i) d b =
      below_from_at (suc at) n f l i d (le_of_suc-le-suc b)
      ∙ ap {B = A} (λ k. cond (ltb k n) (f k (get_or l i d)) (get_or l i d)) (omega arith)

  pub each_below_at : (n : ℕ) (f : ℕ → A → A) (l : List A) (i : ℕ) (d : A) → i < length l
      → get_or (each_below n f l) i d ≡ cond (ltb i n) (f i (get_or l i d)) (get_or l i d)
  each_below_at n f l i d b = below_from_at 0 n f l i d b ∙ ap {B = A} (λ k. cond (ltb k n) (f k (get_or l i d)) (get_or l i d)) (zero-add i)

  -- at a place below the count it is changed, at any other kept
  pub each_below_changed : (n : ℕ) (f : ℕ → A → A) (l : List A) (i : ℕ) (d : A) → i < length l → i < n → get_or (each_below n f l) i d ≡ f i (get_or l i d)
  each_below_changed n f l i d b h = each_below_at n f l i d b ∙ rw (lt-ltb i n h)

  pub each_below_kept : (n : ℕ) (f : ℕ → A → A) (l : List A) (i : ℕ) (d : A) → i < length l → n ≤ i → get_or (each_below n f l) i d ≡ get_or l i d
  each_below_kept n f l i d b h = each_below_at n f l i d b ∙ rw (le-ltb i n h)

-- two lists by their places
pub places_same : {A : Type 0} (d : A) (f g : ℕ → A) (n : ℕ) → ((i : ℕ) → i < n → f i ≡ g i) → places n f ≡ places n g
places_same d f g n h =
    ext_get_or d (places n f) (places n g) (length_places f n ∙ sym (length_places g n))
    (λ i l.
    let b : i < n = rw (length_places f n) at l in
    places_at f n i d b ∙ h i b ∙ sym (places_at g n i d b))

-- a place of a list that is mapped
pub map_at : {A B : Type 0} (f : A → B) (l : List A) (i : ℕ) (a : A) (b : B) → i < length l → get_or (map f l) i b ≡ f (get_or l i a)
map_at f [] i a b h = absurd (omega (arith, h))
map_at f (x ∷ l) zero a b h = refl
map_at f (x ∷ l) (suc i) a b h = map_at f l i a b (omega (arith, h))

-- each place of a list has a property, and so has each of two lists joined
module _ {A : Type 0} (d : A) (P : A → Type 0) where
  abbrev pub EachPlace : List A → Type 0
  EachPlace l = (i : ℕ) → i < length l → P (get_or l i d)

  pub each_joined : (a b : List A) → EachPlace a → EachPlace b → EachPlace (a ++ b)
  each_joined a b p q i h = go (ltb i (length a)) refl
    where
      go : (first : Bool) → ltb i (length a) ≡ first → P (get_or (a ++ b) i d)
      go true c =
          let in-a : i < length a = ltb-true i (length a) c in
          subst P (sym (get_or-append a b d i in-a)) (p i in-a)
      go false c =
          let j : ℕ = i - length a in
          let is : i ≡ length a + j = omega (arith, ltb-false i (length a) c) in
          let in_b : j < length b = omega (arith, h, length-append a b, ltb-false i (length a) c) in
          subst (λ (x : ℕ). P (get_or (a ++ b) x d)) (sym is) (subst P (sym (get_or-append-add a b j d)) (q j in_b))

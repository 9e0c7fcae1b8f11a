-- Lists of links: which relations they name, that none is named twice, what each of them has, and what a walk along the relations keeps. Assumes
-- nothing.
use Rattle.std.specs.Prelude.{◌≡◌, refl, Bool, true, false, not, ◌&&◌, ◌||◌, List, [], ◌∷◌, ◌++◌, ℕ, zero, suc, ◌<◌, ◌≤◌, eqb, length}
use Rattle.std.proofs.Common.{◌∙◌, ap, arith, eq-eqb}
use Rattle.rules.specs.Counting.{how_many}
use Rattle.rules.specs.Chain.{Link, link, Visit, along, link_at, listed}
use Rattle.rules.proofs.Laws.Tests.{clash, denied, both, join, not_true, or_left, or_right}
use Rattle.rules.proofs.Laws.Counting.{many_le, many_lt, each_joined}

pub listed_append : (k : ℕ) (a b : List Link) → listed k (a ++ b) ≡ (listed k a || listed k b)
unfolding listed
listed_append k [] b = refl
listed_append k (l ∷ a) b = go (eqb k l.relation) (listed_append k a b)
  where
    go : (here : Bool) → listed k (a ++ b) ≡ (listed k a || listed k b) → here || listed k (a ++ b) ≡ (here || listed k a) || listed k b
    go true ih = refl
    go false ih = ih

pub append_nothing : (l : List Link) → l ++ [] ≡ l
append_nothing [] = refl
append_nothing (a ∷ l) = ap (λ (r : List Link). a ∷ r) (append_nothing l)

-- no relation twice
unfoldable pub once : List Link → Bool
once [] = true
once (l ∷ rest) = not (listed l.relation rest) && once rest

pub once_append : (a b : List Link) → once a ≡ true → once b ≡ true → ((k : ℕ) → listed k a ≡ true → listed k b ≡ true → ⊥) → once (a ++ b) ≡ true
unfolding once listed
once_append [] b p q apart = q
once_append (l ∷ a) b p q apart =
    let here = both (not (listed l.relation a)) (once a) p in
    let new : listed l.relation (a ++ b) ≡ false =
    listed_append l.relation a b
    ∙ rw (not_true (listed l.relation a) here.0) (denied _ (λ h. apart l.relation (or_left _ _ (eq-eqb l.relation l.relation refl)) h)) in
    join (ap not new) (once_append a b here.1 q (λ k h. apart k (or_right (eqb k l.relation) _ h)))

-- so there are no more than the numbers that they lie below
once_many : (n : ℕ) (l : List Link) → once l ≡ true → ((k : ℕ) → listed k l ≡ true → k < n) → length l ≤ how_many n (λ k. listed k l)
unfolding once listed
once_many n [] p q = omega arith
once_many n (a ∷ l) p q =
    let r = both (not (listed a.relation l)) (once l) p in
    let here : eqb a.relation a.relation || listed a.relation l ≡ true = or_left _ _ (eq-eqb a.relation a.relation refl) in
    omega (
      arith,
      once_many n l r.1 (λ k h. q k (or_right (eqb k a.relation) _ h)),
      many_lt (λ k. listed k l) (λ k. eqb k a.relation || listed k l) (λ k h. or_right (eqb k a.relation) _ h) n a.relation (q _ here)
          (not_true _ r.0) here,
    )

pub once_fits : (l : List Link) (n : ℕ) → once l ≡ true → ((k : ℕ) → listed k l ≡ true → k < n) → length l ≤ n
once_fits l n single below = omega (arith, once_many n l single below, many_le (λ k. listed k l) n)

-- what each relation keeps of the opened events all of them do
pub along_keeps : (Q : ℕ → Type 0) (f : ℕ → ℕ → Visit) (n : ℕ) → ((k p : ℕ) → k < n → Q p → Q (f k p).opened) → (o : ℕ) → Q o → Q (along n f o).opened
unfolding along
along_keeps Q f zero each o start = start
along_keeps Q f (suc n) each o start = each n _ (omega arith) (along_keeps Q f n (λ k p b. each k p (omega (arith, b))) o start)

-- and what each makes of links, and joining keeps
pub along_links : (Q : ℕ → Type 0) (R : List Link → Type 0) (f : ℕ → ℕ → Visit) → R [] → ((a b : List Link) → R a → R b → R (a ++ b)) → (n : ℕ)
    → ((k p : ℕ) → k < n → Q p → Q (f k p).opened × R (f k p).links) → (o : ℕ) → Q o → R (along n f o).links
unfolding along
along_links Q R f empty joins zero each o start = empty
along_links Q R f empty joins (suc n) each o start =
    joins _ _ (along_links Q R f empty joins n (λ k p b. each k p (omega (arith, b))) o start)
    (each n _ (omega arith) (along_keeps Q f n (λ k p b q. (each k p (omega (arith, b)) q).0) o start)).1

pub listed_at : (l : List Link) (i : ℕ) → i < length l → listed (link_at l i).relation l ≡ true
unfolding listed
listed_at [] i b = absurd (omega (arith, b))
listed_at (a ∷ l) zero b = or_left _ _ (eq-eqb a.relation a.relation refl)
listed_at (a ∷ l) (suc i) b = or_right (eqb (link_at l i).relation a.relation) _ (listed_at l i (omega (arith, b)))

-- no relation stands at two places
pub once_apart : (l : List Link) → once l ≡ true → (i j : ℕ) → i < j → j < length l → (link_at l i).relation ≡ (link_at l j).relation → ⊥
unfolding once
once_apart [] p i j a b same = absurd (omega (arith, b))
once_apart (x ∷ l) p zero zero a b same = absurd (omega (arith, a))
once_apart (x ∷ l) p zero (suc j) a b same =
    clash (ap (λ (k : ℕ). listed k l) same ∙ listed_at l j (omega (arith, b))) (not_true _ (both (not (listed x.relation l)) (once l) p).0)
once_apart (x ∷ l) p (suc i) zero a b same = absurd (omega (arith, a))
once_apart (x ∷ l) p (suc i) (suc j) a b same =
    once_apart l (both (not (listed x.relation l)) (once l) p).1 i j (omega (arith, a)) (omega (arith, b)) same

-- walks that do the same at each relation
pub along_same : (f g : ℕ → ℕ → Visit) (n o : ℕ) → ((k p : ℕ) → k < n → f k p ≡ g k p) → along n f o ≡ along n g o
unfolding along
along_same f g zero o same = refl
along_same f g (suc n) o same =
    let before = along_same f g n o (λ k p b. same k p (omega (arith, b))) in
    ap (λ (v : Visit). record { opened = (f n v.opened).opened; links = v.links ++ (f n v.opened).links }) before
    ∙ ap (λ (v : Visit). record { opened = v.opened; links = (along n g o).links ++ v.links }) (same n (along n g o).opened (omega arith))

-- each link of a list has a property, and so have those of two lists joined
abbrev pub Each : (Link → Type 0) → List Link → Type 0
Each P links = (i : ℕ) → i < length links → P (link_at links i)

pub each_append : (P : Link → Type 0) (a b : List Link) → Each P a → Each P b → Each P (a ++ b)
each_append P a b = each_joined (link 0 0) P a b

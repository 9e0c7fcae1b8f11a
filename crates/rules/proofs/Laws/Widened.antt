-- What a set leads to along relations, again and again: it contains the set, is closed, is the least such set, and is kept when widened once
-- more, since each round that changes a set makes it larger and there are only so many events. Assumes nothing.
use Rattle.std.specs.Prelude.{◌≡◌, refl, Bool, false, not, ◌&&◌, ◌||◌, ◌⊎◌, ℕ, ◌<◌, ◌≤◌, ◌^◌, eqb, ltb}
use Rattle.std.proofs.Common.{◌∙◌, sym, subst, ⊎_elim, inl, inr, lt_of_lt_of_le, pow_mono, eqb-true, eq-eqb, ltb-true, ltb-false}
use Rattle.std.proofs.Math.Bool.{true}
use Rattle.rules.specs.declared.Table.{Table}
use Rattle.rules.specs.Counting.{some, how_many}
use Rattle.rules.specs.EventSet.{has}
use Rattle.rules.specs.Holds.{relation_of}
use Rattle.rules.specs.Closure.{widened, widened_fully}
use Rattle.rules.proofs.Laws.Tests.{decide, clash, denied, not_true, both, either, or_right, join}
use Rattle.rules.proofs.Laws.Counting.{some_where, some_at, some_not, many_le, many_lt, repeated_still, repeated_keeps}
use Rattle.rules.proofs.Laws.EventSet.{has_small, set_lt_power, set_has, same_members}

-- a member of a word below 2 ^ n is below n
pub has_below : (n set x : ℕ) → set < 2 ^ n → has set x ≡ true → x < n
has_below n set x fits h = go (ltb x n) refl
  where
    go : (b : Bool) → ltb x n ≡ b → x < n
    go true e = ltb-true x n e
    go false e = absurd (clash h (has_small set n x fits (ltb-false x n e)))

module _ (t : Table) (along : ℕ → Bool) where
  -- relation k, from a set, brings f in
  abbrev brings : ℕ → ℕ → ℕ → Bool
  brings set f k = along k && has set (relation_of t k).left && eqb (relation_of t k).right f

  abbrev in_or_brought : ℕ → ℕ → Bool
  in_or_brought set f = has set f || some t.count (brings set f)

  -- One round.
  pub widened_fits : (set : ℕ) → widened t along set < 2 ^ t.events
  unfolding widened
  widened_fits set = set_lt_power (in_or_brought set) t.events

  widened_has : (set x : ℕ) → x < t.events → has (widened t along set) x ≡ in_or_brought set x
  unfolding widened
  widened_has set x b = set_has (in_or_brought set) t.events x b

  pub widened_keeps : (set x : ℕ) → x < t.events → has set x ≡ true → has (widened t along set) x ≡ true
  widened_keeps set x b h = widened_has set x b ∙ rw h

  pub widened_on : (set k : ℕ) → k < t.count → (relation_of t k).right < t.events → along k ≡ true → has set (relation_of t k).left ≡ true
      → has (widened t along set) (relation_of t k).right ≡ true
  widened_on set k b r l h =
      widened_has set (relation_of t k).right r
      ∙ or_right (has set (relation_of t k).right) _
      (some_at (brings set (relation_of t k).right) t.count k b (join (join l h) (eq-eqb (relation_of t k).right (relation_of t k).right refl)))

  module _ (P : ℕ → Type 0) (on : (k : ℕ) → k < t.count → along k ≡ true → P (relation_of t k).left → P (relation_of t k).right) where
    pub widened_within : (set : ℕ) → ((x : ℕ) → has set x ≡ true → P x) → (x : ℕ) → has (widened t along set) x ≡ true → P x
    widened_within set start x h =
        ⊎_elim (λ p. start x p) brought
        (either (has set x) (some t.count (brings set x)) (sym (widened_has set x (has_below t.events _ x (widened_fits set) h)) ∙ h))
      where
        brought : some t.count (brings set x) ≡ true → P x
        brought p =
            let k = some_where (brings set x) t.count p in
            let a = both (along k.0 && has set (relation_of t k.0).left) (eqb (relation_of t k.0).right x) k.2 in
            let c = both (along k.0) (has set (relation_of t k.0).left) a.0 in
            subst P (eqb-true _ _ a.1) (on k.0 k.1 c.0 (start (relation_of t k.0).left c.1))

    -- it lies in whatever contains the set and is closed
    pub fully_within : (set : ℕ) → ((x : ℕ) → has set x ≡ true → P x) → (x : ℕ) → has (widened_fully t along set) x ≡ true → P x
    unfolding widened_fully
    fully_within set start = repeated_keeps (widened t along) (λ s. (x : ℕ) → has s x ≡ true → P x) widened_within t.events set start

  -- it contains the set
  pub fully_contains : (set x : ℕ) → x < t.events → has set x ≡ true → has (widened_fully t along set) x ≡ true
  unfolding widened_fully
  fully_contains set x b h = repeated_keeps (widened t along) (λ s. has s x ≡ true) (λ s p. widened_keeps s x b p) t.events set h

  -- how many events a set has
  abbrev size : ℕ → ℕ
  size set = how_many t.events (has set)

  abbrev Fits : ℕ → Type 0
  Fits set = set < 2 ^ t.events

  -- a round that changes a set makes it larger
  grows : (set : ℕ) → Fits set → (widened t along set ≡ set) ⊎ (size set < size (widened t along set))
  grows set fits = go (decide (some t.events new))
    where
      new : ℕ → Bool
      new x = has (widened t along set) x && not (has set x)

      keeps : (x : ℕ) → has set x ≡ true → has (widened t along set) x ≡ true
      keeps x h = widened_keeps set x (has_below t.events set x fits h) h

      same : (x : ℕ) → new x ≡ false → has (widened t along set) x ≡ has set x
      same x q =
          ⊎_elim
          (λ (p : has set x ≡ true). keeps x p ∙ sym p)
          (λ (p : has set x ≡ false). denied (has (widened t along set) x) (λ w. clash (rw (w, p)) q) ∙ sym p)
          (decide (has set x))

      go : (some t.events new ≡ true) ⊎ (some t.events new ≡ false) → (widened t along set ≡ set) ⊎ (size set < size (widened t along set))
      go (inl h) =
          let x = some_where new t.events h in
          let p = both (has (widened t along set) x.0) (not (has set x.0)) x.2 in
          inr (many_lt (has set) (has (widened t along set)) keeps t.events x.0 x.1 (not_true (has set x.0) p.1) p.0)
      go (inr h) = inl (same_members t.events (widened t along set) set (widened_fits set) fits (λ x b. same x (some_not new t.events x h b)))

  pub fully_fits : (set : ℕ) → set < 2 ^ t.events → widened_fully t along set < 2 ^ t.events
  unfolding widened_fully
  fully_fits set h = repeated_keeps (widened t along) Fits (λ s f. widened_fits s) t.events set h

  pub fully_word : t.events ≤ 64 → (set : ℕ) → set < 2 ^ t.events → widened_fully t along set < 2 ^ 64
  fully_word few set h = lt_of_lt_of_le (fully_fits set h) (pow_mono {i = t.events} {j = 64} few)

  -- another round changes nothing
  pub fully_stable : (set : ℕ) → set < 2 ^ t.events → widened t along (widened_fully t along set) ≡ widened_fully t along set
  unfolding widened_fully
  fully_stable set h = repeated_still (widened t along) size t.events Fits (λ s f. widened_fits s) (λ s f. many_le (has s) t.events) grows set h

  -- it is closed
  pub fully_closed : (set : ℕ) → set < 2 ^ t.events → (k : ℕ) → k < t.count → (relation_of t k).right < t.events → along k ≡ true
      → has (widened_fully t along set) (relation_of t k).left ≡ true → has (widened_fully t along set) (relation_of t k).right ≡ true
  fully_closed set h k b r l p = rw (fully_stable set h) at (widened_on (widened_fully t along set) k b r l p)

-- The ready events of a set, kept up to date: once one of them is taken, ready are those that were, and those that waited for it and for no
-- other event that is left. Assumes nothing.
use Rattle.std.specs.Prelude.{◌≡◌, refl, Bool, true, false, ◌&&◌, ◌||◌, cond, List, ℕ, ◌<◌, ◌-◌, ◌^◌, eqb, length, get_or, set, replicate}
use Rattle.std.proofs.Common.{◌∙◌, ap, ap₂, sym, ⊎_elim, get_or-set_same, get_or-set_other, eqb-true, eq-eqb}
use Rattle.std.proofs.Math.Decide.{ℕ_discrete}
use Rattle.std.proofs.lemmas.List.{get_or-replicate}
use Rattle.std.specs.Int.Bits.{bit_or, bit_and}
use Rattle.rules.specs.EventSet.{has, with_event}
use Rattle.rules.proofs.Laws.Tests.{decide, clash, denied, affirmed, both, either, join, or_left, or_right, same_test}
use Rattle.rules.proofs.Laws.EventSet.{has_zero, has_minus_same, has_minus_other}
use Rattle.rules.proofs.Laws.Bitwise.{has_or, has_and}
use Rattle.rules.proofs.Laws.Turns.{same_word}
use Rattle.acts.specs.Derived.{row_of}
use Rattle.duties.specs.Inhibition.{followed_in, ready_in}
use Rattle.duties.specs.Taking.{Awaits}
use Rattle.acts.specs.Laws.Each.{chosen_start, chosen_in, chosen_out}

-- The places of a set's events changed, one after the other: what stands at a place, changed if the place is still to come, stays the same.
module _ (change : ℕ → ℕ) (x : ℕ) where
  abbrev pub changed : ℕ → List ℕ → ℕ
  changed events l = cond (has events x) (change (get_or l x 0)) (get_or l x 0)

  pub changed_more : (left e : ℕ) (l : List ℕ) → has left e ≡ true → e < length l → changed (left - 2 ^ e) (set l e (change (get_or l e 0))) ≡ changed left l
  changed_more left e l inside fits = go (ℕ_discrete x e)
    where
      go : Dec (x ≡ e) → changed (left - 2 ^ e) (set l e (change (get_or l e 0))) ≡ changed left l
      go (yes q) = rw (q, has_minus_same left e inside, inside) (get_or-set_same l e (change (get_or l e 0)) 0 fits)
      go (no n) = rw (has_minus_other left e inside x n, get_or-set_other l e x (change (get_or l e 0)) 0 n)

  pub changed_end : (left : ℕ) (l : List ℕ) → left ≡ 0 → changed left l ≡ get_or l x 0
  changed_end left l none = rw (none, has_zero x)

-- what is left of a word without one of its events
module _ (w e x : ℕ) (inside : has w e ≡ true) where
  rest_parts : has (w - 2 ^ e) x ≡ true → (has w x ≡ true) × (x ≡ e → ⊥)
  rest_parts h =
      let other : x ≡ e → ⊥ = λ q. clash h (ap (has (w - 2 ^ e)) q ∙ has_minus_same w e inside) in
      (sym (has_minus_other w e inside x other) ∙ h, other)

  rest_has : has w x ≡ true → (x ≡ e → ⊥) → has (w - 2 ^ e) x ≡ true
  rest_has h other = has_minus_other w e inside x other ∙ h

module _ (rows : List ℕ) where
  -- the inhibitors of an event within a set
  abbrev is_inhibitor : ℕ → ℕ → Bool
  is_inhibitor e x = has (bit_or (row_of rows e 0) (row_of rows e 1)) x || has (row_of rows e 2) x

  inhibits_in : (s e x : ℕ) → has (followed_in rows s s e) x ≡ (is_inhibitor e x && has s x)
  inhibits_in s e x =
      let waits = bit_or (row_of rows e 0) (row_of rows e 1) in
      has_or (bit_and waits s) (bit_and (row_of rows e 2) s) x ∙ ap₂ ◌||◌ (has_and waits s x) (has_and (row_of rows e 2) s x)
      ∙ gathered (has waits x) (has (row_of rows e 2) x) (has s x)
    where
      gathered : (a b c : Bool) → (a && c || b && c) ≡ ((a || b) && c)
      gathered true b true = refl
      gathered true true false = refl
      gathered true false false = refl
      gathered false b c = refl

  inhibitor_inside : (s e x : ℕ) → has (followed_in rows s s e) x ≡ true → has s x ≡ true
  inhibitor_inside s e x h = (both (is_inhibitor e x) (has s x) (sym (inhibits_in s e x) ∙ h)).1

  inhibitor_other : (s w e x : ℕ) → has (followed_in rows s s e) x ≡ true → has w x ≡ true → has (followed_in rows w w e) x ≡ true
  inhibitor_other s w e x h i = inhibits_in w e x ∙ join (both (is_inhibitor e x) (has s x) (sym (inhibits_in s e x) ∙ h)).0 i

  -- none is in the set
  inhibitors_none : (s e : ℕ) → ((x : ℕ) → has (followed_in rows s s e) x ≡ true → ⊥) → eqb (followed_in rows s s e) 0 ≡ true
  inhibitors_none s e none = eq-eqb _ 0 (same_word _ 0 (λ x. denied _ (none x) ∙ sym (has_zero x)))

  no_inhibitor : (s e x : ℕ) → eqb (followed_in rows s s e) 0 ≡ true → has (followed_in rows s s e) x ≡ true → ⊥
  no_inhibitor s e x none h = clash h (ap (λ (w : ℕ). has w x) (eqb-true _ 0 none) ∙ has_zero x)

  -- who waits for whom, one event after the other
  module _ (needed x : ℕ) where
    abbrev pub waits_for : ℕ → Bool
    waits_for e = has (followed_in rows needed needed e) x

    pub awaits_start : x < 64 → (e : ℕ) → (has (get_or (replicate 64 0) x 0) e || (has needed e && waits_for e)) ≡ (has needed e && waits_for e)
    awaits_start small e = rw (get_or-replicate {A = ℕ} 64 x 0 0 small) (chosen_start waits_for e needed)

    pub awaits_more : (e left before inhibitors after y : ℕ) {whole : Bool} → has left e ≡ true → inhibitors ≡ followed_in rows needed needed e
        → after ≡ cond (has inhibitors x) (with_event before e) before → (has before y || (has left y && waits_for y)) ≡ whole
        → (has after y || (has (left - 2 ^ e) y && waits_for y)) ≡ whole
    awaits_more e left before inhibitors after y inside made put old =
        ⊎_elim
        (λ (h : has inhibitors x ≡ true). chosen_in waits_for y before left e inside (ap (λ (w : ℕ). has w x) (sym made) ∙ h) (put ∙ rw h) old)
        (λ (h : has inhibitors x ≡ false). chosen_out waits_for y before left e inside (ap (λ (w : ℕ). has w x) (sym made) ∙ h) (put ∙ rw h) old)
        (decide (has inhibitors x))

-- of the events of a set some are untaken, and a word has those of them that are ready
pub record Ready (rows : List ℕ) (needed untaken ready : ℕ) : Type 0 where
  pub within : (x : ℕ) → has untaken x ≡ true → has needed x ≡ true
  pub told : (x : ℕ) → has ready x ≡ ready_in rows untaken x

module _ {rows : List ℕ} {needed untaken ready : ℕ} (r : Ready rows needed untaken ready) where
  module _ (e : ℕ) (is-ready : has ready e ≡ true) where
    pub ready_untaken : has untaken e ≡ true
    ready_untaken = (both (has untaken e) _ (sym (r.told e) ∙ is-ready)).0

    -- it is taken
    module _ (small : e < 64) (waiting : List ℕ) (waits : Awaits rows needed waiting) (freed : ℕ)
        (free : (x : ℕ) → has freed x
        ≡ (has (bit_and (get_or waiting e 0) (untaken - 2 ^ e)) x && eqb (followed_in rows (untaken - 2 ^ e) (untaken - 2 ^ e) x) 0))
      where
        abbrev left : ℕ
        left = untaken - 2 ^ e

        inside : has untaken e ≡ true
        inside = ready_untaken

        there : (x : ℕ) → has (bit_or (ready - 2 ^ e) freed) x ≡ true → ready_in rows left x ≡ true
        there x h = ⊎_elim was_ready is_freed (either (has (ready - 2 ^ e) x) (has freed x) (sym (has_or (ready - 2 ^ e) freed x) ∙ h))
          where
            was_ready : has (ready - 2 ^ e) x ≡ true → ready_in rows left x ≡ true
            was_ready p =
                let q = rest_parts ready e x is-ready p in
                let u = both (has untaken x) _ (sym (r.told x) ∙ q.0) in
                join (rest_has untaken e x inside u.0 q.1)
                (inhibitors_none rows left x (λ y i. no_inhibitor rows untaken x y u.1
                (inhibitor_other rows left untaken x y i (rest_parts untaken e y inside (inhibitor_inside rows left x y i)).0)))

            is_freed : has freed x ≡ true → ready_in rows left x ≡ true
            is_freed p =
                let q = both (has (bit_and (get_or waiting e 0) left) x) _ (sym (free x) ∙ p) in
                join (both (has (get_or waiting e 0) x) (has left x) (sym (has_and (get_or waiting e 0) left x) ∙ q.0)).1 q.1

        back : (x : ℕ) → ready_in rows left x ≡ true → has (bit_or (ready - 2 ^ e) freed) x ≡ true
        back x h = has_or (ready - 2 ^ e) freed x ∙ ⊎_elim was_ready is_freed (decide (eqb (followed_in rows untaken untaken x) 0))
          where
            p : (has left x ≡ true) × (eqb (followed_in rows left left x) 0 ≡ true)
            p = both (has left x) _ h

            u : (has untaken x ≡ true) × (x ≡ e → ⊥)
            u = rest_parts untaken e x inside p.0

            was_ready : eqb (followed_in rows untaken untaken x) 0 ≡ true → has (ready - 2 ^ e) x || has freed x ≡ true
            was_ready z = or_left _ (has freed x) (rest_has ready e x is-ready (r.told x ∙ join u.0 z) u.1)

            -- it waited for e, as for no other
            held : eqb (followed_in rows untaken untaken x) 0 ≡ false → has (followed_in rows untaken untaken x) e ≡ true
            held z =
                affirmed _ (λ n. clash (inhibitors_none rows untaken x (λ y i. no_inhibitor rows left x y p.1
                (inhibitor_other rows untaken left x y i
                (rest_has untaken e y inside (inhibitor_inside rows untaken x y i) (λ q. clash i (ap (has (followed_in rows untaken untaken x)) q ∙ n)))))) z)

            is_freed : eqb (followed_in rows untaken untaken x) 0 ≡ false → has (ready - 2 ^ e) x || has freed x ≡ true
            is_freed z =
                or_right (has (ready - 2 ^ e) x) (has freed x)
                (free x ∙ join (has_and (get_or waiting e 0) left x
                ∙ join (waits e small x ∙ join (r.within x u.0) (inhibitor_other rows untaken needed x e (held z) (r.within e inside))) p.0) p.1)

        pub ready_more : Ready rows needed left (bit_or (ready - 2 ^ e) freed)
        ready_more = record {
          within = λ x h. r.within x (rest_parts untaken e x inside h).0;
          told = λ x. same_test (has (bit_or (ready - 2 ^ e) freed) x) (ready_in rows left x) (there x) (back x);
        }

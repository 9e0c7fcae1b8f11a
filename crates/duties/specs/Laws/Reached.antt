-- A set is followed along words by opening its events one by one: what was found is closed but for the events still to be opened, and
-- each turn one event fewer waits. Assumes nothing.
use Rattle.std.specs.Prelude.{◌≡◌, refl, Bool, true, false, not, ◌&&◌, ◌||◌, ◌⊎◌, ℕ, ◌<◌, eqb}
use Rattle.std.proofs.Common.{◌∙◌, ap, sym, ⊎_elim, inl, inr, eq-eqb, ne_eqb}
use Rattle.std.proofs.Math.Decide.{ℕ_discrete}
use Rattle.std.specs.Int.Bits.{bit_or}
use Rattle.rules.specs.Counting.{how_many}
use Rattle.rules.specs.EventSet.{has}
use Rattle.rules.proofs.Laws.Tests.{decide, both, join, either, denied, clash, not_true, or_left, or_right, and_false}
use Rattle.rules.proofs.Laws.Counting.{many_lt}
use Rattle.rules.proofs.Laws.EventSet.{has_zero}
use Rattle.rules.proofs.Laws.Bitwise.{has_or}
use Rattle.duties.specs.Inhibition.{Reached}
use Rattle.acts.specs.Events.{Taken}
use Rattle.duties.specs.Laws.Search.{taken_rest}

-- an event that is not opened: not found, or found and still to be opened
abbrev pub waits : ℕ → ℕ → ℕ → Bool
waits found unopened x = not (has found x) || has unopened x

-- what is still to be opened was found
pub record Opening (found unopened : ℕ) : Type 0 where
  pub known : (x : ℕ) → has unopened x ≡ true → has found x ≡ true

pub opening_start : (set : ℕ) → Opening set set
opening_start set = record { known = λ x h. h }

-- what was found is closed but for the events still to be opened, and lies in whatever contains the set and is closed
pub record Reaching (word : ℕ → ℕ) (set found unopened : ℕ) : Type 0 where
  pub starts : (x : ℕ) → has set x ≡ true → has found x ≡ true
  pub on : (e x : ℕ) → e < 64 → has found e ≡ true → has unopened e ≡ false → has (word e) x ≡ true → has found x ≡ true
  pub within : (p : ℕ → Bool) → ((x : ℕ) → has set x ≡ true → p x ≡ true)
      → ((e x : ℕ) → e < 64 → p e ≡ true → has (word e) x ≡ true → p x ≡ true)
      → (x : ℕ) → has found x ≡ true → p x ≡ true

pub reaching_start : (word : ℕ → ℕ) (set : ℕ) → Reaching word set set set
reaching_start word set = record {
  starts = λ x h. h;
  on = λ e x l h n. absurd (clash h n);
  within = λ p from next x h. from x h;
}

pub reaching_end : {word : ℕ → ℕ} {set found unopened : ℕ} → Reaching word set found unopened → unopened ≡ 0 → Reached word set found
reaching_end r z = record {
  starts = r.starts;
  on = λ e x l h. r.on e x l h (ap (λ (w : ℕ). has w e) z ∙ has_zero e);
  within = r.within;
}

-- the lowest event that is still to be opened, and what is found of it: the events of its word
module _ {found unopened e left : ℕ} (o : Opening found unopened) (t : Taken unopened e left) where
  module _ (told more : ℕ) (new : (x : ℕ) → has more x ≡ (has told x && not (has found x))) where
    abbrev wider : ℕ
    wider = bit_or found more

    abbrev rest : ℕ
    rest = bit_or left more

    has_left : (x : ℕ) → has rest x ≡ ((has unopened x && not (eqb x e)) || has more x)
    has_left x = has_or left more x ∙ ap (λ (b : Bool). b || has more x) (taken_rest t x)

    rest_cases : (x : ℕ) → has rest x ≡ true → ((has unopened x ≡ true) × (eqb x e ≡ false)) ⊎ (has more x ≡ true)
    rest_cases x h =
        ⊎_elim
        (λ p. let q = both (has unopened x) (not (eqb x e)) p in inl (q.0, not_true (eqb x e) q.1))
        (λ p. inr p)
        (either (has unopened x && not (eqb x e)) (has more x) (sym (has_left x) ∙ h))

    found_wider : (x : ℕ) → has found x ≡ true → has wider x ≡ true
    found_wider x h = has_or found more x ∙ or_left (has found x) (has more x) h

    more_wider : (x : ℕ) → has more x ≡ true → has wider x ≡ true
    more_wider x h = has_or found more x ∙ or_right (has found x) (has more x) h

    -- an event in the word of the opened one is found now
    brought : (x : ℕ) → has told x ≡ true → has wider x ≡ true
    brought x h =
        ⊎_elim (λ p. found_wider x p) (λ p. more_wider x (new x ∙ join h (ap not p))) (decide (has found x))

    pub opening_more : Opening wider rest
    opening_more = record { known = λ x h. ⊎_elim (λ p. found_wider x (o.known x p.0)) (λ p. more_wider x p) (rest_cases x h) }

    pub reaching_more : {word : ℕ → ℕ} {set : ℕ} → told ≡ word e → Reaching word set found unopened → Reaching word set wider rest
    reaching_more {word} {set} is r = record {
      starts = λ x h. found_wider x (r.starts x h);
      on = λ f x l h n i. next f x l h n i (ℕ_discrete f e);
      within = λ p from onward x h.
          ⊎_elim
          (λ q. r.within p from onward x q)
          (λ q. onward e x t.small (r.within p from onward e (o.known e t.inside))
          (ap (λ (w : ℕ). has w x) (sym is) ∙ (both (has told x) (not (has found x)) (sym (new x) ∙ q)).0))
          (either (has found x) (has more x) (sym (has_or found more x) ∙ h));
    }
      where
        -- an event that is opened was so before, or is the one of this turn
        next : (f x : ℕ) → f < 64 → has wider f ≡ true → has rest f ≡ false → has (word f) x ≡ true → Dec (f ≡ e) → has wider x ≡ true
        next f x l h n i (yes q) = brought x (ap (λ (w : ℕ). has w x) (is ∙ ap word (sym q)) ∙ i)
        next f x l h n i (no d) =
            ⊎_elim
            (λ p. found_wider x (r.on f x l p (denied (has unopened f) (λ u. clash (has_left f ∙ rw (u, ne_eqb f e d)) n)) i))
            (λ p. absurd (clash (has_or left more f ∙ or_right (has left f) (has more f) p) n))
            (either (has found f) (has more f) (sym (has_or found more f) ∙ h))

    -- one event fewer waits
    pub opening_less : how_many 64 (waits wider rest) < how_many 64 (waits found unopened)
    opening_less =
        many_lt (waits wider rest) (waits found unopened) still 64 e t.small gone
        (or_right (not (has found e)) (has unopened e) t.inside)
      where
        still : (y : ℕ) → waits wider rest y ≡ true → waits found unopened y ≡ true
        still y h =
            ⊎_elim
            (λ p. or_left (not (has found y)) (has unopened y)
            (ap not (denied (has found y) (λ q. clash (found_wider y q) (not_true (has wider y) p)))))
            (λ p. ⊎_elim
            (λ q. or_right (not (has found y)) (has unopened y) q.0)
            (λ q. or_left (not (has found y)) (has unopened y)
            (both (has told y) (not (has found y)) (sym (new y) ∙ q)).1)
            (rest_cases y p))
            (either (not (has wider y)) (has rest y) h)

        here : has found e ≡ true
        here = o.known e t.inside

        not_more : has more e ≡ false
        not_more = new e ∙ rw here (and_false (has told e))

        gone : waits wider rest e ≡ false
        gone = rw (found_wider e here, has_left e, eq-eqb e e refl, not_more) (ap (λ (b : Bool). b || false) (and_false (has unopened e)))

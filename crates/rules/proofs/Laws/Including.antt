-- A marking with an event included: what its records are, and that it is judged 'done' where the marking is. Assumes nothing.
use Rattle.std.specs.Prelude.{◌≡◌, Bool, true, false, ℕ, ◌<◌, eqb}
use Rattle.std.proofs.Math.Path.{refl}
use Rattle.std.proofs.Common.{◌∙◌, subst, sym, arith, eq-eqb, ne_eqb}
use Rattle.std.proofs.Math.Bool.{cond}
use Rattle.rules.specs.declared.Table.{Table}
use Rattle.rules.specs.declared.Record.{Record}
use Rattle.rules.specs.declared.Marking.{Marking}
use Rattle.rules.specs.Holds.{most_events, empty_record, record_of}
use Rattle.rules.specs.Judge.{state_fits, count_fits_lem, record_fits, judged}
use Rattle.rules.specs.Including.{as_included, including}
use Rattle.rules.proofs.Laws.Counting.{places_at}
use Rattle.rules.proofs.Laws.Judge.{good, judged_again}

as_included_fits : (r : Record) → record_fits (as_included r) ≡ record_fits r
unfolding record_fits state_fits count_fits_lem
as_included_fits r = refl

module _ (x : ℕ) (m : Marking) where
  at : (e : ℕ) → e < most_events → record_of (including x m) e ≡ cond (eqb e x) (as_included (record_of m e)) (record_of m e)
  unfolding including
  at e b = places_at (λ e. cond (eqb e x) (as_included (record_of m e)) (record_of m e)) most_events e empty_record b

  pub including_own : x < most_events → record_of (including x m) x ≡ as_included (record_of m x)
  including_own b = at x b ∙ rw (eq-eqb x x refl)

  pub including_other : (e : ℕ) → e < most_events → (e ≡ x → ⊥) → record_of (including x m) e ≡ record_of m e
  including_other e b other = at e b ∙ rw (ne_eqb e x other)

  pub including_keeps : (e : ℕ) → e < most_events → (record_of m e).included ≡ true → (record_of (including x m) e).included ≡ true
  including_keeps e b h = subst (λ r. r.included ≡ true) (sym (at e b)) (go (eqb e x))
    where
      go : (own : Bool) → (cond own (as_included (record_of m e)) (record_of m e)).included ≡ true
      go true = refl
      go false = h

  pub including_judged : (t : Table) → judged t m ≡ 0 → judged t (including x m) ≡ 0
  unfolding including
  including_judged t h = judged_again t m (including x m) h refl (λ e b fits. kept e (in_place e b) fits)
    where
      in_place : (e : ℕ) → e < m.events → e < most_events
      in_place e b = let g = good t m h in omega (arith, b, g.marking_good.same_events, g.table_good.few_events)

      kept : (e : ℕ) → e < most_events → record_fits (record_of m e) ≡ true → record_fits (record_of (including x m) e) ≡ true
      kept e b fits = subst (λ r. record_fits r ≡ true) (sym (at e b)) (go (eqb e x))
        where
          go : (own : Bool) → record_fits (cond own (as_included (record_of m e)) (record_of m e)) ≡ true
          go true = as_included_fits (record_of m e) ∙ fits
          go false = fits

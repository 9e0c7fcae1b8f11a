-- How many ticks pass before an event is due: until the nearest date of the events that may be due, found by going through them one by one.
-- Assumes nothing.
use Rattle.std.specs.Prelude.{◌≡◌, refl, true, false, ◌&&◌, List, ◌⊎◌, ℕ, zero, suc, ◌<◌, ◌≤◌, ◌+◌, ◌-◌, ◌^◌, min, eqb, leb, ltb, get_or}
use Rattle.std.proofs.Common.{◌∙◌, ap, subst, ⊎_elim, inl, inr, arith}
use Rattle.std.proofs.Math.Path.{sym}
use borrow.Author.Tests.{eqb-true, eqb-false, le-leb, lt-leb, leb-true, leb-false, ltb-true, ltb-false}
use Rattle.rules.specs.declared.Record.{Record}
use Rattle.rules.specs.declared.Marking.{Marking}
use Rattle.rules.specs.Counting.{lowest, repeated}
use Rattle.rules.specs.EventSet.{has}
use Rattle.rules.specs.Holds.{record_of}
use Rattle.rules.specs.Time.{is_due, any_due, time}
use Rattle.rules.specs.Quiet.{quiet_ticks}
use Rattle.rules.proofs.Laws.Tests.{clash, decide, both, join, denied}
use Rattle.rules.proofs.Laws.Counting.{some_at, some_false, lowest_is, lowest_none}
use Rattle.rules.proofs.Laws.EventSet.{has_zero, has_minus_other}
use Rattle.acts.specs.Stands.{ticks_at, Stands, may_be_due}
use Rattle.acts.specs.Laws.Stands.{stands_events, tick_stands}
use Rattle.acts.specs.Laws.Due.{is_over, due_at}

-- the least of most and of the dates of a set's events, where those of `left` were not yet looked at
pub record Nearest (dates : ℕ → ℕ) (most set left least : ℕ) : Type 0 where
  pub small : least ≤ most
  pub within : (x : ℕ) → has left x ≡ true → has set x ≡ true
  pub before : (x : ℕ) → has set x ≡ true → (has left x ≡ true) ⊎ (least ≤ dates x)
  pub some : (least ≡ most) ⊎ ((x : ℕ) × (has set x ≡ true) × (least ≡ dates x))

module _ (dates : ℕ → ℕ) (most set : ℕ) where
  pub nearest_start : Nearest dates most set set most
  nearest_start = record { small = omega arith; within = λ x h. h; before = λ x h. inl h; some = inl refl }

  -- one event more is looked at
  pub nearest_more : {left least : ℕ} → Nearest dates most set left least → (e : ℕ) → has left e ≡ true → {r : ℕ} → r ≡ min least (dates e)
      → Nearest dates most set (left - 2 ^ e) r
  nearest_more {left} {least} n e inside {r} is = record {
    small = omega (arith, is, n.small);
    within = λ x h. n.within x (stays x (decide (eqb x e)) h);
    before = λ x h. ⊎_elim
        (λ (l : has left x ≡ true). here x l (decide (eqb x e)))
        (λ (b : least ≤ dates x). inr (omega (arith, is, b)))
        (n.before x h);
    some = ⊎_elim
        (λ (nearer : leb least (dates e) ≡ true). let same : r ≡ least = omega (arith, is, leb-true least (dates e) nearer) in
        ⊎_elim (λ (w : least ≡ most). inl (same ∙ w)) (λ w. inr (w.0, w.1, same ∙ w.2)) n.some)
        (λ (farther : leb least (dates e) ≡ false).
        inr (e, n.within e inside, omega (arith, is, leb-false least (dates e) farther)))
        (decide (leb least (dates e)));
  }
    where
      stays : (x : ℕ) → (eqb x e ≡ true) ⊎ (eqb x e ≡ false) → has (left - 2 ^ e) x ≡ true → has left x ≡ true
      stays x (inl own) h = rw (eqb-true x e own) inside
      stays x (inr other) h = sym (has_minus_other left e inside x (eqb-false x e other)) ∙ h

      here : (x : ℕ) → has left x ≡ true → (eqb x e ≡ true) ⊎ (eqb x e ≡ false) → (has (left - 2 ^ e) x ≡ true) ⊎ (r ≤ dates x)
      here x l (inl own) = inr (rw (eqb-true x e own) (omega (arith, is)))
      here x l (inr other) = inl (has_minus_other left e inside x (eqb-false x e other) ∙ l)

-- the words at later ticks
pub ticks_stand : (n : ℕ) (tail : List Record) (clock : ℕ) (sets columns : List ℕ) (m : Marking) → Stands n tail clock sets columns m → (i : ℕ)
    → Stands n tail (clock + i) sets columns (repeated i time m)
unfolding repeated
ticks_stand n tail clock sets columns m stands zero =
    let e : clock ≡ clock + 0 = omega arith in subst (λ (k : ℕ). Stands n tail k sets columns m) e stands
ticks_stand n tail clock sets columns m stands (suc i) =
    let e : clock + i + 1 ≡ clock + suc i = omega arith in
    subst (λ (k : ℕ). Stands n tail k sets columns (time (repeated i time m))) e
    (tick_stands n tail (clock + i) sets columns (repeated i time m) (ticks_stand n tail clock sets columns m stands i))

module _ (n : ℕ) (tail : List Record) (clock : ℕ) (sets columns : List ℕ) (m : Marking) (stands : Stands n tail clock sets columns m)
    (most : ℕ) {set left least : ℕ} (made : (x : ℕ) → has set x ≡ may_be_due sets n x)
    (nearest : Nearest (ticks_at clock columns) most set left least) (through : left ≡ 0)
  where
    due_then : (i x : ℕ) → x < n → (may_be_due sets n x && is_over (clock + i) columns x) ≡ is_due (record_of (repeated i time m) x)
    due_then i = due_at n tail (clock + i) sets columns (repeated i time m) (ticks_stand n tail clock sets columns m stands i)

    then_events : (i : ℕ) → (repeated i time m).events ≡ n
    then_events i = stands_events n tail (clock + i) sets columns (repeated i time m) (ticks_stand n tail clock sets columns m stands i)

    -- none is over before the nearest
    none_over : (i x : ℕ) → i < least → may_be_due sets n x ≡ true → is_over (clock + i) columns x ≡ false
    none_over i x b may =
        lt-leb (get_or columns (64 + x) 0) (clock + i)
        (⊎_elim
        (λ (l : has left x ≡ true). absurd (clash l (ap (λ (w : ℕ). has w x) through ∙ has_zero x)))
        (λ (far : least ≤ ticks_at clock columns x). omega (arith, b, far))
        (nearest.before x (made x ∙ may)))

    quiet_before : (i : ℕ) → i < least → any_due (repeated i time m) ≡ false
    unfolding any_due
    quiet_before i b =
        some_false _ _ (λ x l.
        let inside = rw (then_events i) at l in
        sym (due_then i x inside)
        ∙ denied _ (λ h. let p = both (may_be_due sets n x) (is_over (clock + i) columns x) h in clash p.1 (none_over i x b p.0)))

    -- and at the nearest one is due
    due_there : (x : ℕ) → has set x ≡ true → least ≡ ticks_at clock columns x → any_due (repeated least time m) ≡ true
    unfolding any_due
    due_there x h is =
        let may = sym (made x) ∙ h in
        let inside : x < n = ltb-true x n (both ((has (get_or sets 1 0) x && has (get_or sets 2 0) x) && has (get_or sets 3 0) x) (ltb x n) may).1 in
        some_at _ _ x (rw (then_events least) inside)
        (sym (due_then least x inside) ∙ join may (le-leb (get_or columns (64 + x) 0) (clock + least) (omega (arith, is))))

    pub nearest_quiet : least ≡ quiet_ticks m most
    unfolding quiet_ticks
    nearest_quiet = sym (⊎_elim all there nearest.some)
      where
        all : least ≡ most → lowest most (λ i. any_due (repeated i time m)) ≡ least
        all is = lowest_none _ most (λ i b. quiet_before i (omega (arith, b, is))) ∙ sym is

        there : (x : ℕ) × (has set x ≡ true) × (least ≡ ticks_at clock columns x) → lowest most (λ i. any_due (repeated i time m)) ≡ least
        there w = ⊎_elim
            (λ (b : ltb least most ≡ true). lowest_is _ most least (ltb-true least most b) (due_there w.0 w.1 w.2) quiet_before)
            (λ (b : ltb least most ≡ false). all (omega (arith, ltb-false least most b, nearest.small)))
            (decide (ltb least most))

-- The invariant. One event set X, fixed for a whole history, has the facts that the check asks of the closure (Static), and a marking keeps
-- within it (Invariant). Any effect, of an event that is enabled or not, and any tick of time keep it. Assumes nothing.
use Rattle.std.specs.Prelude.{◌≡◌, false, ℕ, ◌<◌, eqb}
use Rattle.std.proofs.Common.{◌∙◌, ap, sym, subst, ⊎_elim, eqb-true}
use Rattle.std.proofs.Math.Bool.{true, not}
use Rattle.rules.specs.declared.Table.{Table}
use Rattle.rules.specs.declared.Marking.{Marking}
use Rattle.rules.specs.EventSet.{has}
use Rattle.rules.specs.Holds.{is_condition, is_response, is_inclusion, is_exclusion, is_milestone, is_controllable, is_causable, relation_of, record_of}
use Rattle.rules.specs.Judge.{judged}
use Rattle.rules.specs.Enabled.{stops, blocks, is_enabled}
use Rattle.rules.specs.Effect.{effect}
use Rattle.rules.specs.Time.{time}
use Rattle.rules.specs.Closure.{inhibits, followed}
use Rattle.rules.specs.Check.{awaited}
use Rattle.rules.proofs.Laws.Tests.{clash, denied, both, join}
use Rattle.rules.proofs.Laws.Counting.{some_false}
use Rattle.rules.proofs.Laws.HoldsBack.{stops_inhibits}
use Rattle.rules.proofs.Laws.Judge.{good}
use Rattle.rules.proofs.Demand3.Records.{under_deadline}
use Rattle.rules.proofs.Demand3.Facts.{Linked, bounded_response, included_stays, deadline_by, time_included, time_under, effect_judged, time_judged}

-- The static facts of a set X: about the table alone.
pub record Static (t : Table) (X : ℕ) : Type 0 where
  -- right of a bounded response is in X
  pub responses_in : (k : ℕ) → k < t.count → bounded_response (relation_of t k) ≡ true → has X (relation_of t k).right ≡ true
  -- X is closed under inhibitors that are followed
  pub closed : (k : ℕ) → k < t.count → followed (relation_of t k) ≡ true → has X (relation_of t k).left ≡ true → has X (relation_of t k).right ≡ true
  -- members are causable
  pub causable : (e : ℕ) → e < t.events → has X e ≡ true → is_causable t e ≡ true
  -- conditions with left in X ask for no time
  pub untimed : (k : ℕ) → k < t.count → is_condition (relation_of t k) ≡ true → has X (relation_of t k).left ≡ true → (relation_of t k).time ≡ 0
  -- no member waits for itself along followed relations
  pub acyclic : (e : ℕ) → e < t.events → has X e ≡ true → has (awaited t e) e ≡ false
  -- no response from X to the right of a milestone of X
  pub not_reopened : (k j : ℕ) → k < t.count → j < t.count → is_response (relation_of t k) ≡ true → has X (relation_of t k).left ≡ true
      → is_milestone (relation_of t j) ≡ true → has X (relation_of t j).left ≡ true → (relation_of t j).right ≡ (relation_of t k).right → ⊥
  -- no inclusion from X to another member of X
  pub not_revived : (k : ℕ) → k < t.count → is_inclusion (relation_of t k) ≡ true → has X (relation_of t k).left ≡ true → has X (relation_of t k).right ≡ true
      → (relation_of t k).left ≡ (relation_of t k).right
  -- right of an exclusion, and left of any condition or milestone, is controllable
  pub excluded_controllable : (k : ℕ) → k < t.count → is_exclusion (relation_of t k) ≡ true → is_controllable t (relation_of t k).right ≡ true
  pub held_controllable : (k : ℕ) → k < t.count → inhibits (relation_of t k) ≡ true → is_controllable t (relation_of t k).left ≡ true

-- The facts of a marking.
pub record Invariant (t : Table) (X : ℕ) (m : Marking) : Type 0 where
  pub judged_done : judged t m ≡ 0
  -- what is under a deadline, included or not, is in X
  pub deadlines_in : (x : ℕ) → x < t.events → under_deadline (record_of m x) ≡ true → has X x ≡ true
  -- an uncontrollable event is included
  pub uncontrollable_included : (x : ℕ) → x < t.events → is_controllable t x ≡ false → (record_of m x).included ≡ true

module _ (t : Table) (X : ℕ) (st : Static t X) (m : Marking) (v : Invariant t X m) where
  pub known : {x : ℕ} → x < t.events → x < m.events
  known {x} b = subst (λ (n : ℕ). x < n) (sym (good t m v.judged_done).marking_good.same_events) b

  -- the effect of any event keeps it
  pub effect_keeps : (e : ℕ) → Invariant t X (effect t m e)
  effect_keeps e =
      record {
        judged_done = effect_judged t m e v.judged_done;
        deadlines_in = λ x b h. ⊎_elim (λ p. v.deadlines_in x b p.0) (given x) (deadline_by t m e x (known b) h);
        uncontrollable_included = λ x b h. included_stays t m e x (known b) (not_excluded x h) (v.uncontrollable_included x b h);
      }
    where
      given : (x : ℕ) → Linked t bounded_response e x → has X x ≡ true
      given x l = subst (λ (y : ℕ). has X y ≡ true) l.to (st.responses_in l.relation l.exists l.is)

      not_excluded : (x : ℕ) → is_controllable t x ≡ false → Linked t is_exclusion e x → ⊥
      not_excluded x h l = clash (subst (λ (y : ℕ). is_controllable t y ≡ true) l.to (st.excluded_controllable l.relation l.exists l.is)) h

  -- and so does time
  pub time_keeps : Invariant t X (time m)
  time_keeps =
      record {
        judged_done = time_judged t m v.judged_done;
        deadlines_in = λ x b h. v.deadlines_in x b (sym (time_under m x (known b)) ∙ h);
        uncontrollable_included = λ x b h. time_included m x (known b) ∙ v.uncontrollable_included x b h;
      }

  -- an uncontrollable event is enabled: it is included, and no condition or milestone has it as left
  pub always_enabled : (e : ℕ) → e < t.events → is_controllable t e ≡ false → is_enabled t m e ≡ true
  unfolding is_enabled blocks
  always_enabled e b h = join (v.uncontrollable_included e b h) (ap not (some_false (blocks t m e) t.count (λ k c. denied (blocks t m e k) (blocked k c))))
    where
      blocked : (k : ℕ) → k < t.count → blocks t m e k ≡ true → ⊥
      blocked k c q =
          let p = both (eqb (relation_of t k).left e) (stops (relation_of t k) (record_of m (relation_of t k).right)) q in
          let free = st.held_controllable k c (stops_inhibits (relation_of t k) (record_of m (relation_of t k).right) p.1) in
          clash (subst (λ (y : ℕ). is_controllable t y ≡ true) (eqb-true (relation_of t k).left e p.0) free) h

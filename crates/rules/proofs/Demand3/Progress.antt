-- Progress of the guarded tick. Along the order of taking, what is included of X was included at the start, what has happened stays so, and an
-- event that was taken and is included has happened, has no deadline that has run out and, as a milestone of X, is not pending.
-- So each event that is executed is enabled at its turn, and after the last none is due. Assumes nothing.
use Rattle.std.specs.Prelude.{◌≡◌, refl, false, ◌⊎◌, ℕ, ◌<◌, ◌-◌, ◌^◌, eqb}
use Rattle.std.proofs.Common.{◌∙◌, ap, sym, subst, inl, inr}
use Rattle.std.proofs.Math.Bool.{true, not}
use Rattle.std.proofs.Math.Logic.{⊎_elim}
use borrow.Author.Tests.{eqb-true, eqb-false}
use Rattle.rules.specs.declared.Table.{Table}
use Rattle.rules.specs.declared.Marking.{Marking}
use Rattle.rules.specs.EventSet.{has}
use Rattle.rules.specs.Holds.{is_condition, is_response, is_inclusion, is_milestone, relation_of, record_of}
use Rattle.rules.specs.Enabled.{stops, blocks, is_enabled}
use Rattle.rules.specs.Effect.{effect}
use Rattle.rules.specs.Time.{is_due}
use Rattle.rules.specs.Closure.{followed, follows}
use Rattle.rules.specs.Guard.{holds_back, needed, goes_ahead, taken}
use Rattle.rules.proofs.Laws.Tests.{decide, clash, denied, both, join}
use Rattle.rules.proofs.Laws.Counting.{some_false}
use Rattle.rules.proofs.Laws.EventSet.{has_minus_other}
use Rattle.rules.specs.Shapes.Good.{GoodTable}
use Rattle.rules.proofs.Laws.Judge.{good}
use Rattle.rules.proofs.Laws.Closure.{follows_at}
use Rattle.rules.proofs.Laws.HoldsBack.{stops_holds_back, holds_back_parts, holds_back_condition, holds_back_milestone, holds_back_followed}
use Rattle.rules.proofs.Laws.Needed.{needed_due, needed_on, needed_within}
use Rattle.rules.proofs.Laws.Taken.{ahead_included, behind_excluded, taken_in, taken_out}
use Rattle.rules.proofs.Demand3.Records.{ran_out, due_parts, due_is, ran_out_under}
use Rattle.rules.proofs.Demand3.Facts.{Linked, effect_events, included_by_lem, happened_stays, happened_own, pending_by, run_out_before}
use Rattle.rules.proofs.Demand3.Invariant.{Static, Invariant}

-- what holds of an event of X that was taken and is included
pub record Past (t : Table) (X : ℕ) (m : Marking) (x : ℕ) : Type 0 where
  pub came : (record_of m x).happened ≡ true
  pub calm : ran_out (record_of m x) ≡ false
  pub settled : (k : ℕ) → k < t.count → is_milestone (relation_of t k) ≡ true → has X (relation_of t k).left ≡ true → (relation_of t k).right ≡ x
      → (record_of m x).pending ≡ false

-- along the order of taking: o is the marking at the start, m the one now
pub record Loop (t : Table) (X : ℕ) (o : Marking) (untaken : ℕ) (m : Marking) : Type 0 where
  pub same_events : m.events ≡ t.events
  pub included_at_start : (x : ℕ) → x < t.events → has X x ≡ true → (record_of m x).included ≡ true → (record_of o x).included ≡ true
  pub happened_still : (x : ℕ) → x < t.events → (record_of o x).happened ≡ true → (record_of m x).happened ≡ true
  pub pending_at_start : (k : ℕ) → k < t.count → is_milestone (relation_of t k) ≡ true → has X (relation_of t k).left ≡ true
      → (record_of m (relation_of t k).right).pending ≡ true → (record_of o (relation_of t k).right).pending ≡ true
  pub past : (x : ℕ) → x < t.events → has (needed t o) x ≡ true → has untaken x ≡ false → (record_of m x).included ≡ true → Past t X m x
  pub run_out_at_start : (x : ℕ) → x < t.events → ran_out (record_of m x) ≡ true → ran_out (record_of o x) ≡ true

module _ (t : Table) (X : ℕ) (st : Static t X) (o : Marking) (j : Invariant t X o) where
  good_t : GoodTable t
  good_t = (good t o j.judged_done).table_good

  same_o : o.events ≡ t.events
  same_o = (good t o j.judged_done).marking_good.same_events

  -- what is needed lies in X
  pub needed_in : (x : ℕ) → has (needed t o) x ≡ true → has X x ≡ true
  needed_in =
      needed_within t good_t o same_o (λ x. has X x ≡ true) (λ k b l s p. st.closed k b l p)
      (λ x b h. j.deadlines_in x b (ran_out_under (record_of o x) (due_parts (record_of o x) h).1))

  pub loop_start : Loop t X o (needed t o) o
  loop_start =
      record {
        same_events = same_o;
        included_at_start = λ x b p h. h;
        happened_still = λ x b h. h;
        pending_at_start = λ k b p q h. h;
        past = λ x b n u i. absurd (clash n u);
        run_out_at_start = λ x b h. h;
      }

  -- one event is taken
  module _ (untaken : ℕ) (m : Marking) (v : Loop t X o untaken m) (e : ℕ) (b : e < t.events) (own : has untaken e ≡ true)
      (need : has (needed t o) e ≡ true) where
    here : {x : ℕ} → x < t.events → x < m.events
    here {x} l = subst (λ (n : ℕ). x < n) (sym v.same_events) l

    inside : has X e ≡ true
    inside = needed_in e need

    -- what was taken before, or is e
    taken_or_own : (x : ℕ) → has (untaken - 2 ^ e) x ≡ false → (x ≡ e) ⊎ (has untaken x ≡ false)
    taken_or_own x h =
        ⊎_elim
        (λ (q : eqb x e ≡ true). inl (eqb-true x e q))
        (λ (q : eqb x e ≡ false). inr (sym (has_minus_other untaken e own x (eqb-false x e q)) ∙ h))
        (decide (eqb x e))

    -- a skipped event: the marking stays
    loop_skip : goes_ahead t m e ≡ false → Loop t X o (untaken - 2 ^ e) m
    loop_skip behind =
        record {
          same_events = v.same_events;
          included_at_start = v.included_at_start;
          happened_still = v.happened_still;
          pending_at_start = v.pending_at_start;
          past = λ x l n u i. ⊎_elim
              (λ q. absurd (clash i (subst (λ (y : ℕ). (record_of m y).included ≡ false) (sym q) out)))
              (λ q. v.past x l n q i)
              (taken_or_own x u);
          run_out_at_start = v.run_out_at_start;
        }
      where
        out : (record_of m e).included ≡ false
        out = behind_excluded t m e behind

    -- a member that is included afterwards was included before
    was : (record_of m e).included ≡ true → (x : ℕ) → x < t.events → has X x ≡ true → (record_of (effect t m e) x).included ≡ true → (record_of m x).included ≡ true
    was now x l p h = ⊎_elim (λ q. q) by (included_by_lem t m e x (here l) h)
      where
        by : Linked t is_inclusion e x → (record_of m x).included ≡ true
        by k =
            let same : e ≡ x = sym k.from ∙ st.not_revived k.relation k.exists k.is (rw k.from inside) (rw k.to p) ∙ k.to in
            subst (λ (y : ℕ). (record_of m y).included ≡ true) same now

    -- no response from e to the right of a milestone of X
    still : (k : ℕ) → k < t.count → is_milestone (relation_of t k) ≡ true → has X (relation_of t k).left ≡ true
        → (x : ℕ) → x < t.events → (relation_of t k).right ≡ x
        → (record_of (effect t m e) x).pending ≡ true → ((record_of m x).pending ≡ true) × (x ≡ e → ⊥)
    still k c p q x l to h = ⊎_elim (λ r. r) by (pending_by t m e x (here l) h)
      where
        by : Linked t is_response e x → ((record_of m x).pending ≡ true) × (x ≡ e → ⊥)
        by r = absurd (st.not_reopened r.relation k r.exists c r.is (rw r.from inside) p q (to ∙ sym r.to))

    past_own : (record_of m e).included ≡ true → Past t X (effect t m e) e
    past_own now =
        record {
          came = happened_own t m e (here b) now;
          calm = denied (ran_out (record_of (effect t m e) e)) (λ h. (run_out_before t m e e (here b) good_t h).1 refl);
          settled = λ k c p q to. denied (record_of (effect t m e) e).pending (λ h. (still k c p q e b to h).1 refl);
        }

    past_old : (x : ℕ) → x < t.events → Past t X m x → Past t X (effect t m e) x
    past_old x l p =
        record {
          came = happened_stays t m e x (here l) p.came;
          calm = denied (ran_out (record_of (effect t m e) x)) (λ h. clash (run_out_before t m e x (here l) good_t h).0 p.calm);
          settled = λ k c q r to. denied (record_of (effect t m e) x).pending (λ h. clash (still k c q r x l to h).0 (p.settled k c q r to));
        }

    loop_execute : goes_ahead t m e ≡ true → Loop t X o (untaken - 2 ^ e) (effect t m e)
    loop_execute ahead =
        record {
          same_events = same_effect;
          included_at_start = λ x l p h. v.included_at_start x l p (was now x l p h);
          happened_still = λ x l h. happened_stays t m e x (here l) (v.happened_still x l h);
          pending_at_start = λ k c p q h.
              v.pending_at_start k c p q (still k c p q (relation_of t k).right (good_t.relations_good k c).right_exists refl h).0;
          past = λ x l n u i. ⊎_elim
              (λ q. subst (Past t X (effect t m e)) (sym q) (past_own now))
              (λ q. past_old x l (v.past x l n q (was now x l (needed_in x n) i)))
              (taken_or_own x u);
          run_out_at_start = λ x l h. v.run_out_at_start x l (run_out_before t m e x (here l) good_t h).0;
        }
      where
        now : (record_of m e).included ≡ true
        now = ahead_included t m e ahead

        same_effect : (effect t m e).events ≡ t.events
        same_effect = effect_events t m e ∙ v.same_events

    pub loop_turn : Loop t X o (untaken - 2 ^ e) (taken t m e)
    loop_turn =
        ⊎_elim
        (λ (i : goes_ahead t m e ≡ true). rw (taken_in t m e i) (loop_execute i))
        (λ (i : goes_ahead t m e ≡ false). rw (taken_out t m e i) (loop_skip i))
        (decide (goes_ahead t m e))

    -- going ahead at its turn, with no untaken inhibitor, it is enabled
    pub turn_enabled : ((f : ℕ) → f < t.events → follows t e f ≡ true → has untaken f ≡ false) → goes_ahead t m e ≡ true → is_enabled t m e ≡ true
    unfolding is_enabled blocks
    turn_enabled before ahead =
        join (ahead_included t m e ahead) (ap not (some_false (blocks t m e) t.count (λ k c. denied (blocks t m e k) (λ h. blocked k c h))))
      where
        blocked : (k : ℕ) → k < t.count → blocks t m e k ≡ true → ⊥
        blocked k c h =
            let f = (relation_of t k).right in
            let l : f < t.events = (good_t.relations_good k c).right_exists in
            let p = both (eqb (relation_of t k).left e) (stops (relation_of t k) (record_of m f)) h in
            let from : (relation_of t k).left ≡ e = eqb-true _ _ p.0 in
            let left_in : has X (relation_of t k).left ≡ true = rw from inside in
            let timeless : is_condition (relation_of t k) ≡ true → (relation_of t k).time ≡ 0 = λ i. st.untimed k c i left_in in
            let held : holds_back (relation_of t k) (record_of m f) ≡ true = stops_holds_back (relation_of t k) (record_of m f) timeless p.1 in
            let along : followed (relation_of t k) ≡ true = holds_back_followed (relation_of t k) (record_of m f) timeless held in
            let parts = holds_back_parts (relation_of t k) (record_of m f) held in
            let first : (record_of o f).included ≡ true = v.included_at_start f l (st.closed k c along left_in) parts.0 in
            let past : holds_back (relation_of t k) (record_of o f) ≡ true → Past t X m f =
            λ s. v.past f l (needed_on t good_t o same_o k c along s (rw from need)) (before f l (rw from at (follows_at t k c along))) parts.0 in
            ⊎_elim
            (λ (i : (is_condition (relation_of t k) ≡ true) × ((record_of m f).happened ≡ false)).
            let unhappened = denied (record_of o f).happened (λ y. clash (v.happened_still f l y) i.1) in
            clash (past (holds_back_condition (relation_of t k) (record_of o f) first i.0 unhappened)).came i.1)
            (λ (i : (is_milestone (relation_of t k) ≡ true) × ((record_of m f).pending ≡ true)).
            let waits = v.pending_at_start k c i.0 left_in i.1 in
            clash i.1 ((past (holds_back_milestone (relation_of t k) (record_of o f) first i.0 waits)).settled k c i.0 left_in refl))
            parts.1

  -- with every needed event taken, no event is due
  pub none_due : (untaken : ℕ) (m : Marking) → Loop t X o untaken m → ((x : ℕ) → x < t.events → has untaken x ≡ false)
      → (x : ℕ) → x < t.events → is_due (record_of m x) ≡ false
  none_due untaken m v all x b = denied (is_due (record_of m x)) (λ h. never (due_parts (record_of m x) h))
    where
      never : ((record_of m x).included ≡ true) × (ran_out (record_of m x) ≡ true) → ⊥
      never p =
          let late : ran_out (record_of o x) ≡ true = v.run_out_at_start x b p.1 in
          let first : (record_of o x).included ≡ true = v.included_at_start x b (j.deadlines_in x b (ran_out_under (record_of o x) late)) p.0 in
          let need : has (needed t o) x ≡ true = needed_due t good_t o same_o x b (due_is (record_of o x) first late) in
          clash p.1 (v.past x b need (all x b) p.0).calm

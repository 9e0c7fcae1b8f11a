-- The facts about single acts: what the effect of one event, and one tick of time, make of each record of a marking. With Response and Records
-- the only place where effect and time are opened. A place that the marking's list does not have stays empty, so nothing is asked of the
-- list's length. Assumes nothing.
use Rattle.std.specs.Prelude.{◌≡◌, Bool, ◌&&◌, ◌⊎◌, ℕ, ◌<◌, ◌≤◌, ◌+◌, ◌-◌, min, eqb, ltb, get_or, length}
use Rattle.std.proofs.Math.Path.{refl, ap}
use Rattle.std.proofs.Common.{◌∙◌, sym, subst, ⊎_elim, eqb-true, eq-eqb, ne_eqb, ltb-true, ltb-false}
use Rattle.std.proofs.Math.Bool.{true, false, cond}
use Rattle.std.proofs.Math.Logic.{inl, inr}
use Rattle.std.proofs.Math.ListN.{get_or-eq_default}
use Rattle.rules.specs.declared.Relation.{Relation}
use Rattle.rules.specs.declared.Table.{Table}
use Rattle.rules.specs.declared.Record.{Record}
use Rattle.rules.specs.declared.Marking.{Marking}
use Rattle.rules.specs.Counting.{some, each_below}
use Rattle.rules.specs.Holds.{count_limit, is_response, is_inclusion, is_exclusion, empty_record, relation_of, record_of, with_records}
use Rattle.rules.specs.Judge.{record_fits, judged}
use Rattle.rules.specs.Effect.{Deadline, within, eventually, deadline_of, is_pending, is_bounded, leads, excludes, includes, response, effect_at, effect}
use Rattle.rules.specs.Time.{later, time}
use Rattle.rules.specs.Deadline.{no_later}
use Rattle.rules.proofs.Laws.Tests.{clash, denied, both, join}
use Rattle.rules.proofs.Laws.Counting.{some_where, length_each_below, each_below_changed}
use Rattle.rules.specs.Shapes.Good.{GoodTable}
use Rattle.rules.proofs.Laws.Judge.{good, judged_again}
use Rattle.rules.proofs.Demand3.Response.{asked, Responds, response_gives}
use Rattle.rules.proofs.Demand3.Records.{under_deadline, ran_out, at_included, at_happened, at_pending, at_under, at_out}
use Rattle.rules.proofs.Demand3.Records.{at_count, at_fits, at_undisturbed, at_no_later, later_fits}

-- a relation of some kind leads from e to x
pub record Linked (t : Table) (kind : Relation → Bool) (e x : ℕ) : Type 0 where
  pub relation : ℕ
  pub exists : relation < t.count
  pub is : kind (relation_of t relation) ≡ true
  pub from : (relation_of t relation).left ≡ e
  pub to : (relation_of t relation).right ≡ x

abbrev pub bounded_response : Relation → Bool
bounded_response k = is_response k && k.bounded

linked : (t : Table) (kind : Relation → Bool) (e x : ℕ) → some t.count (λ k. kind (relation_of t k) && leads (relation_of t k) e x) ≡ true → Linked t kind e x
linked t kind e x h =
    let k = some_where (λ k. kind (relation_of t k) && leads (relation_of t k) e x) t.count h in
    let p = both (kind (relation_of t k.0)) (leads (relation_of t k.0) e x) k.2 in
    let q = both (eqb (relation_of t k.0).left e) (eqb (relation_of t k.0).right x) p.1 in
    record { relation = k.0; exists = k.1; is = p.0; from = eqb-true _ _ q.0; to = eqb-true _ _ q.1 }

-- Places of a marking: each record below the count is changed, and a place that is not there is empty before and after.
module _ (f : ℕ → Record → Record) (m : Marking) (x : ℕ) (b : x < m.events) (P : Record → Record → Type 0) where
  changed : P empty_record empty_record → ((r : Record) → P r (f x r))
      → P (record_of m x) (record_of (with_records m (each_below m.events f m.records)) x)
  changed void each = go (ltb x (length m.records)) refl
    where
      go : (there : Bool) → ltb x (length m.records) ≡ there → P (record_of m x) (get_or (each_below m.events f m.records) x empty_record)
      go true e =
          subst (P (record_of m x))
          (sym (each_below_changed m.events f m.records x empty_record (ltb-true x (length m.records) e) b)) (each (record_of m x))
      go false e =
          let past : length m.records ≤ x = ltb-false x (length m.records) e in
          let same : length (each_below m.events f m.records) ≡ length m.records = length_each_below m.events f m.records in
          subst (λ r. P r (get_or (each_below m.events f m.records) x empty_record)) (sym (get_or-eq_default m.records empty_record past))
          (subst (P empty_record) (sym (get_or-eq_default (each_below m.events f m.records) empty_record (rw same past))) void)

-- the number of events stays
pub effect_events : (t : Table) (m : Marking) (e : ℕ) → (effect t m e).events ≡ m.events
unfolding effect
effect_events t m e = refl

pub time_events : (m : Marking) → (time m).events ≡ m.events
unfolding time
time_events m = refl

-- The effect of any event e of a table on the record of any event x, e enabled or not.
module _ (t : Table) (m : Marking) (e x : ℕ) (b : x < m.events) where
  at_effect : (P : Record → Record → Type 0) → P empty_record empty_record → ((r : Record) → P r (effect_at t e x r))
      → P (record_of m x) (record_of (effect t m e) x)
  unfolding effect
  at_effect = changed (effect_at t e) m x b

  -- included afterwards, x was included or is included by e
  pub included_by_lem : (record_of (effect t m e) x).included ≡ true → ((record_of m x).included ≡ true) ⊎ Linked t is_inclusion e x
  unfolding includes
  included_by_lem = at_effect (λ r s. s.included ≡ true → (r.included ≡ true) ⊎ Linked t is_inclusion e x) (λ h. inl h)
      (λ r h. go r (includes t e x) (excludes t e x) refl (sym (at_included t e x r) ∙ h))
    where
      go : (r : Record) (i o : Bool) → includes t e x ≡ i → cond i true (cond o false r.included) ≡ true → (r.included ≡ true) ⊎ Linked t is_inclusion e x
      go r true o p h = inr (linked t is_inclusion e x p)
      go r false true p h = absurd (clash h refl)
      go r false false p h = inl h

  -- an included event stays so unless e excludes it
  pub included_stays : (Linked t is_exclusion e x → ⊥) → (record_of m x).included ≡ true → (record_of (effect t m e) x).included ≡ true
  unfolding excludes
  included_stays kept = at_effect (λ r s. r.included ≡ true → s.included ≡ true) (λ h. h) (λ r h. at_included t e x r ∙ go r h (includes t e x))
    where
      none : excludes t e x ≡ false
      none = denied (excludes t e x) (λ h. kept (linked t is_exclusion e x h))

      go : (r : Record) → r.included ≡ true → (i : Bool) → cond i true (cond (excludes t e x) false r.included) ≡ true
      go r h true = refl
      go r h false = rw (none, h)

  -- what has happened stays so
  pub happened_stays : (record_of m x).happened ≡ true → (record_of (effect t m e) x).happened ≡ true
  happened_stays = at_effect (λ r s. r.happened ≡ true → s.happened ≡ true) (λ h. h) (λ r h. at_happened t e x r ∙ go r h (eqb x e))
    where
      go : (r : Record) → r.happened ≡ true → (i : Bool) → cond i true r.happened ≡ true
      go r h true = refl
      go r h false = h

  -- the execution of another event does not count
  pub count_stays : (x ≡ e → ⊥) → (record_of (effect t m e) x).count ≡ (record_of m x).count
  count_stays other = at_effect (λ r s. s.count ≡ r.count) refl (λ r. at_count t e x r ∙ rw (ne_eqb x e other))

  -- pending afterwards, it was pending and is not e, or e responds to it
  pub pending_by : (record_of (effect t m e) x).pending ≡ true → (((record_of m x).pending ≡ true) × (x ≡ e → ⊥)) ⊎ Linked t is_response e x
  pending_by = at_effect (λ r s. s.pending ≡ true → ((r.pending ≡ true) × (x ≡ e → ⊥)) ⊎ Linked t is_response e x) (λ h. absurd (clash h refl))
      (λ r h. ⊎_elim (λ p. inl p) (λ p. inr (by (response_gives t e x p))) (at_pending t e x r h))
    where
      by : {d : Deadline} → Responds t e x d → Linked t is_response e x
      by g = record { relation = g.relation; exists = g.exists; is = g.responds; from = g.from; to = g.to }

  -- under a deadline afterwards, it was and is not e, or e gives it one
  pub deadline_by : under_deadline (record_of (effect t m e) x) ≡ true → ((under_deadline (record_of m x) ≡ true) × (x ≡ e → ⊥)) ⊎ Linked t bounded_response e x
  deadline_by = at_effect (λ r s. under_deadline s ≡ true → ((under_deadline r ≡ true) × (x ≡ e → ⊥)) ⊎ Linked t bounded_response e x) (λ h. absurd (clash h refl))
      (λ r h. ⊎_elim (λ p. inl p) (λ p. inr (by (response_gives t e x p.0) p.1)) (at_under t e x r h))
    where
      bounded_asked : (k : Relation) → is_bounded (asked k) ≡ true → k.bounded ≡ true
      bounded_asked k = go k.bounded
        where
          go : (b : Bool) → is_bounded (cond b (within k.time) eventually) ≡ true → b ≡ true
          go true h = refl
          go false h = h

      by : (g : Responds t e x (response t e x)) → is_bounded (response t e x) ≡ true → Linked t bounded_response e x
      by g h =
          let bounded = bounded_asked (relation_of t g.relation) (sym (ap is_bounded g.gives) ∙ h) in
          record { relation = g.relation; exists = g.exists; is = join g.responds bounded; from = g.from; to = g.to }

  -- a deadline that has run out afterwards had run out before, and is not e's
  pub run_out_before : GoodTable t → ran_out (record_of (effect t m e) x) ≡ true → (ran_out (record_of m x) ≡ true) × (x ≡ e → ⊥)
  run_out_before good = at_effect (λ r s. ran_out s ≡ true → (ran_out r ≡ true) × (x ≡ e → ⊥)) (λ h. absurd (clash h refl)) (at_out t e x good)

  -- with no response to x, and x another event, its deadline stays
  pub deadline_stays : (x ≡ e → ⊥) → is_pending (response t e x) ≡ false
      → ((record_of (effect t m e) x).pending ≡ (record_of m x).pending) × ((record_of (effect t m e) x).bounded ≡ (record_of m x).bounded)
      × ((record_of (effect t m e) x).deadline ≡ (record_of m x).deadline)
  deadline_stays other unasked =
      at_effect (λ r s. (s.pending ≡ r.pending) × (s.bounded ≡ r.bounded) × (s.deadline ≡ r.deadline)) (refl, refl, refl)
      (λ r. at_undisturbed t e x r other unasked)

  -- in a firm table, and x another event, its deadline does not move out
  pub deadline_no_later : t.firm ≡ true → (x ≡ e → ⊥) → (record_of m x).pending ≡ true
      → no_later (deadline_of (record_of (effect t m e) x)) (deadline_of (record_of m x)) ≡ true
  deadline_no_later firm other =
      at_effect (λ r s. r.pending ≡ true → no_later (deadline_of s) (deadline_of r) ≡ true) (λ h. absurd (clash h refl))
      (λ r. at_no_later t e x r firm other)

  -- a record that fits still does
  pub effect_fits : GoodTable t → record_fits (record_of m x) ≡ true → record_fits (record_of (effect t m e) x) ≡ true
  effect_fits good = at_effect (λ r s. record_fits r ≡ true → record_fits s ≡ true) (λ h. h) (at_fits t e x good)

-- the executed event itself has happened; it has a place since it is included
pub happened_own : (t : Table) (m : Marking) (e : ℕ) → e < m.events → (record_of m e).included ≡ true → (record_of (effect t m e) e).happened ≡ true
happened_own t m e b =
    at_effect t m e e b (λ r s. r.included ≡ true → s.happened ≡ true) (λ h. h)
    (λ r h. at_happened t e e r ∙ rw (eq-eqb e e refl))

-- and is counted once more
pub count_own : (t : Table) (m : Marking) (e : ℕ) → e < m.events → (record_of m e).included ≡ true
    → (record_of (effect t m e) e).count ≡ min ((record_of m e).count + 1) count_limit
count_own t m e b =
    at_effect t m e e b (λ r s. r.included ≡ true → s.count ≡ min (r.count + 1) count_limit) (λ h. absurd (clash h refl))
    (λ r h. at_count t e e r ∙ rw (eq-eqb e e refl))

-- One tick.
module _ (m : Marking) (x : ℕ) (b : x < m.events) where
  pub at_time : record_of (time m) x ≡ later (record_of m x)
  unfolding time later
  at_time = changed (λ e. later) m x b (λ r s. s ≡ later r) refl (λ r. refl)

  pub time_included : (record_of (time m) x).included ≡ (record_of m x).included
  unfolding later
  time_included = ap (λ (r : Record). r.included) at_time

  pub time_pending : (record_of (time m) x).pending ≡ (record_of m x).pending
  unfolding later
  time_pending = ap (λ (r : Record). r.pending) at_time

  pub time_bounded : (record_of (time m) x).bounded ≡ (record_of m x).bounded
  unfolding later
  time_bounded = ap (λ (r : Record). r.bounded) at_time

  pub time_under : under_deadline (record_of (time m) x) ≡ under_deadline (record_of m x)
  unfolding later
  time_under = ap under_deadline at_time

  pub time_deadline : (record_of m x).bounded ≡ true → (record_of (time m) x).deadline ≡ (record_of m x).deadline - 1
  unfolding later
  time_deadline h = ap (λ (r : Record). r.deadline) at_time ∙ rw h

  pub time_count : (record_of (time m) x).count ≡ (record_of m x).count
  unfolding later
  time_count = ap (λ (r : Record). r.count) at_time

  pub time_fits_lem : record_fits (record_of m x) ≡ true → record_fits (record_of (time m) x) ≡ true
  time_fits_lem h = subst (λ r. record_fits r ≡ true) (sym at_time) (later_fits (record_of m x) h)

pub effect_judged : (t : Table) (m : Marking) (e : ℕ) → judged t m ≡ 0 → judged t (effect t m e) ≡ 0
unfolding effect
effect_judged t m e h = judged_again t m (effect t m e) h refl (λ x b. effect_fits t m e x b (good t m h).table_good)

pub time_judged : (t : Table) (m : Marking) → judged t m ≡ 0 → judged t (time m) ≡ 0
unfolding time
time_judged t m h = judged_again t m (time m) h refl (time_fits_lem m)

-- What the effect of one event, and one tick of time, make of one record. What is seen of a deadline afterwards was seen before or comes with
-- a response: one lemma, read for 'pending', 'under a deadline' and 'run out', over any rule that picks. Assumes nothing.
use Rattle.std.specs.Prelude.{◌≡◌, Bool, not, ◌&&◌, ◌⊎◌, ℕ, ◌≤◌, ◌+◌, ◌-◌, min, eqb}
use Rattle.std.proofs.Math.Path.{refl, ap}
use Rattle.std.proofs.Common.{◌∙◌, sym, arith}
use Rattle.std.proofs.Math.Bool.{true, false, cond}
use Rattle.std.proofs.Math.Logic.{⊎_elim, inl, inr}
use Rattle.std.proofs.Math.Nat.{min-le_right}
use Rattle.std.proofs.Math.Dec.{leb}
use borrow.Author.Tests.{eqb-false, ne_eqb, leb-true, le-leb}
use Rattle.rules.specs.declared.Table.{Table}
use Rattle.rules.specs.declared.Record.{Record}
use Rattle.rules.specs.Holds.{limit, count_limit}
use Rattle.rules.specs.Judge.{state_fits, count_fits_lem, record_fits}
use Rattle.rules.specs.Effect.{Deadline, none, eventually, within, deadline_of, is_pending, is_bounded, ticks_of, with_deadline, meets}
use Rattle.rules.specs.Effect.{excludes, includes, response, executed, with_inclusion, effect_at}
use Rattle.rules.specs.Time.{is_due, later}
use Rattle.rules.specs.Deadline.{no_later}
use Rattle.rules.proofs.Laws.Tests.{decide, clash, both, join}
use Rattle.rules.proofs.Laws.Fit.{fits_parts, fits_both, counted_fits}
use Rattle.rules.specs.Shapes.Good.{GoodTable}
use Rattle.rules.proofs.Demand3.Response.{Picks, meeting, is_zero, response_timely}

-- pending with a deadline, included or not; and with a deadline that has run out
abbrev pub under_deadline : Record → Bool
under_deadline r = r.pending && r.bounded

abbrev pub ran_out : Record → Bool
ran_out r = r.pending && (r.bounded && eqb r.deadline 0)

-- due is included with a deadline that has run out
pub due_parts : (r : Record) → is_due r ≡ true → (r.included ≡ true) × (ran_out r ≡ true)
unfolding is_due
due_parts r h = both r.included (ran_out r) h

pub due_is : (r : Record) → r.included ≡ true → ran_out r ≡ true → is_due r ≡ true
unfolding is_due
due_is r i h = join i h

pub ran_out_under : (r : Record) → ran_out r ≡ true → under_deadline r ≡ true
ran_out_under r h =
    let p = both r.pending (r.bounded && eqb r.deadline 0) h in
    join p.0 (both r.bounded (eqb r.deadline 0) p.1).0

-- What is seen of a record's deadline: it is so of a record with a given deadline, an executed event has nothing to see, and inclusion
-- changes nothing.
record Aspect : Type 0 where
  test : Deadline → Bool
  seen : Record → Bool
  given_it : (r : Record) (d : Deadline) → seen (with_deadline r d) ≡ test d
  of_it : (r : Record) → test (deadline_of r) ≡ seen r
  cleared : (r : Record) → seen (executed r) ≡ false
  apart : (t : Table) (e x : ℕ) (r : Record) → seen (with_inclusion t e x r) ≡ seen r

pendingly : Aspect
unfolding with_deadline executed with_inclusion
pendingly = record {
  test = is_pending;
  seen = λ r. r.pending;
  given_it = λ r d. refl;
  of_it = λ r. go r r.pending r.bounded;
  cleared = λ r. refl;
  apart = λ t e x r. refl;
}
  where
    go : (r : Record) (p b : Bool) → is_pending (cond p (cond b (within r.deadline) eventually) none) ≡ p
    go r true true = refl
    go r true false = refl
    go r false b = refl

boundedly : Aspect
unfolding with_deadline executed with_inclusion
boundedly = record {
  test = is_bounded;
  seen = under_deadline;
  given_it = λ r. of;
  of_it = λ r. go r r.pending r.bounded;
  cleared = λ r. refl;
  apart = λ t e x r. refl;
}
  where
    of : (d : Deadline) → is_pending d && is_bounded d ≡ is_bounded d
    of none = refl
    of eventually = refl
    of (within d) = refl

    go : (r : Record) (p b : Bool) → is_bounded (cond p (cond b (within r.deadline) eventually) none) ≡ p && b
    go r true true = refl
    go r true false = refl
    go r false b = refl

run_out : Aspect
unfolding with_deadline executed with_inclusion
run_out = record {
  test = is_zero;
  seen = ran_out;
  given_it = λ r. of;
  of_it = λ r. go r r.pending r.bounded;
  cleared = λ r. refl;
  apart = λ t e x r. refl;
}
  where
    of : (d : Deadline) → is_pending d && (is_bounded d && eqb (ticks_of d) 0) ≡ is_zero d
    of none = refl
    of eventually = refl
    of (within d) = refl

    go : (r : Record) (p b : Bool) → is_zero (cond p (cond b (within r.deadline) eventually) none) ≡ p && (b && eqb r.deadline 0)
    go r true true = refl
    go r true false = refl
    go r false b = refl

-- A response that meets a record, by any rule that picks.
module _ (rule : Deadline → Deadline → Deadline) (picks : Picks rule) where
  abbrev pub responded_by : Deadline → Record → Record
  responded_by new r = cond (is_pending new) (with_deadline r (rule (deadline_of r) new)) r

  responded_same : (new : Deadline) (r : Record)
      → ((responded_by new r).included ≡ r.included) × ((responded_by new r).happened ≡ r.happened) × ((responded_by new r).age ≡ r.age)
      × ((responded_by new r).count ≡ r.count)
  unfolding with_deadline
  responded_same none r = (refl, refl, refl, refl)
  responded_same eventually r = (refl, refl, refl, refl)
  responded_same (within d) r = (refl, refl, refl, refl)

  -- its deadline is what the rule makes of the old one and the response
  pub responded_deadline : (new : Deadline) (r : Record) → is_pending new ≡ true → deadline_of (responded_by new r) ≡ rule (deadline_of r) new
  unfolding with_deadline
  responded_deadline new r h = rw h (given_back (rule (deadline_of r) new))
    where
      given_back : (d : Deadline) → deadline_of (with_deadline r d) ≡ d
      given_back none = refl
      given_back eventually = refl
      given_back (within d) = refl

  -- what is seen afterwards was seen before, or is so of the response
  responded_seen : (a : Aspect) (new : Deadline) (r : Record) → a.seen (responded_by new r) ≡ true
      → (a.seen r ≡ true) ⊎ ((is_pending new ≡ true) × (a.test new ≡ true))
  responded_seen a new r h = go (is_pending new) h
    where
      met : a.test (rule (deadline_of r) new) ≡ true → (a.seen r ≡ true) ⊎ (a.test new ≡ true)
      met p =
          ⊎_elim
          (λ q. inl (sym (a.of_it r) ∙ sym (ap a.test q) ∙ p))
          (λ q. inr (sym (ap a.test q) ∙ p))
          (picks (deadline_of r) new)

      go : (b : Bool) → a.seen (cond b (with_deadline r (rule (deadline_of r) new)) r) ≡ true → (a.seen r ≡ true) ⊎ ((b ≡ true) × (a.test new ≡ true))
      go true p = ⊎_elim (λ q. inl q) (λ q. inr (refl, q)) (met (sym (a.given_it r _) ∙ p))
      go false p = inl p

  -- a state that fits still does
  responded_fits : (new : Deadline) (r : Record) → ticks_of new ≤ limit → state_fits r ≡ true → state_fits (responded_by new r) ≡ true
  unfolding state_fits with_deadline
  responded_fits new r small h = go (is_pending new)
    where
      p : (leb r.age (cond r.happened limit 0) ≡ true)
          × (cond r.pending true (not r.bounded) && leb r.deadline (cond r.bounded limit 0) ≡ true)
      p = both (leb r.age (cond r.happened limit 0)) _ h

      old : ticks_of (deadline_of r) ≤ limit
      old = of r.pending r.bounded (leb-true r.deadline _ (both (cond r.pending true (not r.bounded)) _ p.1).1)
        where
          of : (p b : Bool) → r.deadline ≤ cond b limit 0 → ticks_of (cond p (cond b (within r.deadline) eventually) none) ≤ limit
          of true true h = h
          of true false h = omega arith
          of false b h = omega arith

      with_it : (d : Deadline) → ticks_of d ≤ limit → cond (is_pending d) true (not (is_bounded d)) && leb (ticks_of d) (cond (is_bounded d) limit 0) ≡ true
      with_it none l = refl
      with_it eventually l = refl
      with_it (within d) l = le-leb d limit l

      ticks : ticks_of (rule (deadline_of r) new) ≤ limit
      ticks = ⊎_elim (λ q. rw q old) (λ q. rw q small) (picks (deadline_of r) new)

      go : (b : Bool) → state_fits (cond b (with_deadline r (rule (deadline_of r) new)) r) ≡ true
      go true = join p.0 (with_it (rule (deadline_of r) new) ticks)
      go false = h

-- What the effect of e makes of a record of x.
module _ (t : Table) (e x : ℕ) where
  abbrev own : Record → Record
  own r = cond (eqb x e) (executed r) r

  own_included : (r : Record) → (own r).included ≡ r.included
  unfolding executed
  own_included r = go (eqb x e)
    where
      go : (b : Bool) → (cond b (executed r) r).included ≡ r.included
      go true = refl
      go false = refl

  own_seen : (a : Aspect) (r : Record) → a.seen (own r) ≡ true → (a.seen r ≡ true) × (x ≡ e → ⊥)
  own_seen a r h =
      ⊎_elim
      (λ (q : eqb x e ≡ true). absurd (clash (rw q at h) (a.cleared r)))
      (λ (q : eqb x e ≡ false). (rw q at h, eqb-false x e q))
      (decide (eqb x e))

  pub at_included : (r : Record) → (effect_at t e x r).included ≡ cond (includes t e x) true (cond (excludes t e x) false r.included)
  unfolding effect_at with_inclusion
  at_included r =
      (responded_same (meets t.firm) (meeting t.firm).picks (response t e x) (with_inclusion t e x (own r))).0
      ∙ ap (λ (i : Bool). cond (includes t e x) true (cond (excludes t e x) false i)) (own_included r)

  pub at_happened : (r : Record) → (effect_at t e x r).happened ≡ cond (eqb x e) true r.happened
  unfolding effect_at with_inclusion executed
  at_happened r = (responded_same (meets t.firm) (meeting t.firm).picks (response t e x) (with_inclusion t e x (own r))).1 ∙ go (eqb x e)
    where
      go : (b : Bool) → (cond b (executed r) r).happened ≡ cond b true r.happened
      go true = refl
      go false = refl

  pub at_age : (r : Record) → (effect_at t e x r).age ≡ cond (eqb x e) 0 r.age
  unfolding effect_at with_inclusion executed
  at_age r = (responded_same (meets t.firm) (meeting t.firm).picks (response t e x) (with_inclusion t e x (own r))).2 ∙ go (eqb x e)
    where
      go : (b : Bool) → (cond b (executed r) r).age ≡ cond b 0 r.age
      go true = refl
      go false = refl

  -- an execution of x counts, and nothing else does
  pub at_count : (r : Record) → (effect_at t e x r).count ≡ cond (eqb x e) (min (r.count + 1) count_limit) r.count
  unfolding effect_at with_inclusion executed
  at_count r = (responded_same (meets t.firm) (meeting t.firm).picks (response t e x) (with_inclusion t e x (own r))).3 ∙ go (eqb x e)
    where
      go : (b : Bool) → (cond b (executed r) r).count ≡ cond b (min (r.count + 1) count_limit) r.count
      go true = refl
      go false = refl

  at_seen : (a : Aspect) (r : Record) → a.seen (effect_at t e x r) ≡ true
      → ((a.seen r ≡ true) × (x ≡ e → ⊥)) ⊎ ((is_pending (response t e x) ≡ true) × (a.test (response t e x) ≡ true))
  unfolding effect_at
  at_seen a r h =
      ⊎_elim
      (λ p. inl (own_seen a r (sym (a.apart t e x (own r)) ∙ p)))
      (λ p. inr p)
      (responded_seen (meets t.firm) (meeting t.firm).picks a (response t e x) (with_inclusion t e x (own r)) h)

  -- read for each
  pub at_pending : (r : Record) → (effect_at t e x r).pending ≡ true → ((r.pending ≡ true) × (x ≡ e → ⊥)) ⊎ (is_pending (response t e x) ≡ true)
  unfolding pendingly effect_at
  at_pending r h = ⊎_elim (λ p. inl p) (λ p. inr p.0) (at_seen pendingly r h)

  pub at_under : (r : Record) → under_deadline (effect_at t e x r) ≡ true
      → ((under_deadline r ≡ true) × (x ≡ e → ⊥)) ⊎ ((is_pending (response t e x) ≡ true) × (is_bounded (response t e x) ≡ true))
  unfolding boundedly effect_at
  at_under r h = at_seen boundedly r h

  pub at_out : GoodTable t → (r : Record) → ran_out (effect_at t e x r) ≡ true → (ran_out r ≡ true) × (x ≡ e → ⊥)
  unfolding run_out effect_at
  at_out good r h = ⊎_elim (λ p. p) (λ p. absurd (clash p.1 (response_timely t good e x).0)) (at_seen run_out r h)

  -- a target of responses gets what the rule makes of the deadline that it has once e is cleared and the smallest of theirs
  pub at_response : (r : Record) → is_pending (response t e x) ≡ true
      → deadline_of (effect_at t e x r) ≡ meets t.firm (deadline_of (own r)) (response t e x)
  unfolding effect_at with_inclusion
  at_response r h = responded_deadline (meets t.firm) (meeting t.firm).picks (response t e x) (with_inclusion t e x (own r)) h

  at_state_fits : GoodTable t → (r : Record) → state_fits r ≡ true → state_fits (effect_at t e x r) ≡ true
  unfolding effect_at with_inclusion executed state_fits
  at_state_fits good r h =
      responded_fits (meets t.firm) (meeting t.firm).picks (response t e x) (with_inclusion t e x (own r)) (response_timely t good e x).1 (go (eqb x e))
    where
      go : (b : Bool) → state_fits (with_inclusion t e x (cond b (executed r) r)) ≡ true
      go true = refl
      go false = h

  at_count_fits : (r : Record) → count_fits_lem r ≡ true → count_fits_lem (effect_at t e x r) ≡ true
  unfolding count_fits_lem
  at_count_fits r h = rw (at_happened r, at_count r) (go (eqb x e))
    where
      go : (b : Bool) → let n = cond b (min (r.count + 1) count_limit) r.count in
          cond (cond b true r.happened) (leb 1 n && leb n count_limit) (eqb n 0) ≡ true
      go true = counted_fits r.count
      go false = h

  pub at_fits : GoodTable t → (r : Record) → record_fits r ≡ true → record_fits (effect_at t e x r) ≡ true
  at_fits good r h = let p = fits_parts r h in fits_both (effect_at t e x r) (at_state_fits good r p.0) (at_count_fits r p.1)

  -- with no response to x, and x another event, its deadline stays
  pub at_undisturbed : (r : Record) → (x ≡ e → ⊥) → is_pending (response t e x) ≡ false
      → ((effect_at t e x r).pending ≡ r.pending) × ((effect_at t e x r).bounded ≡ r.bounded) × ((effect_at t e x r).deadline ≡ r.deadline)
  unfolding effect_at with_inclusion
  at_undisturbed r other unasked = rw (unasked, ne_eqb x e other) (refl, refl, refl)

  -- in a firm table, and x another event, a deadline does not move out
  pub at_no_later : (r : Record) → t.firm ≡ true → (x ≡ e → ⊥) → r.pending ≡ true → no_later (deadline_of (effect_at t e x r)) (deadline_of r) ≡ true
  unfolding pendingly
  at_no_later r firm other h = go (decide (is_pending (response t e x)))
    where
      pending : is_pending (deadline_of r) ≡ true
      pending = pendingly.of_it r ∙ h

      same : (d : Deadline) → is_pending d ≡ true → no_later d d ≡ true
      same none p = p
      same eventually p = refl
      same (within d) p = le-leb d d (omega arith)

      go : (is_pending (response t e x) ≡ true) ⊎ (is_pending (response t e x) ≡ false) → no_later (deadline_of (effect_at t e x r)) (deadline_of r) ≡ true
      go (inl asked) =
          rw (at_response r asked, ne_eqb x e other) ((meeting t.firm).no_later_lem firm (deadline_of r) (response t e x) pending)
      go (inr unasked) =
          let p = at_undisturbed r other unasked in
          rw (p.0, p.1, p.2) (same (deadline_of r) pending)

-- one tick
pub later_fits : (r : Record) → record_fits r ≡ true → record_fits (later r) ≡ true
unfolding later state_fits count_fits_lem
later_fits r h =
    let fits = fits_parts r h in
    let p = both (leb r.age (cond r.happened limit 0)) _ fits.0 in
    let q = both (cond r.pending true (not r.bounded)) (leb r.deadline (cond r.bounded limit 0)) p.1 in
    fits_both (later r) (join (older r.happened (leb-true r.age _ p.0)) (join q.0 (nearer r.bounded (leb-true r.deadline _ q.1))))
    fits.1
  where
    older : (b : Bool) → r.age ≤ cond b limit 0 → leb (cond b (min (r.age + 1) limit) r.age) (cond b limit 0) ≡ true
    older true l = le-leb (min (r.age + 1) limit) limit (min-le_right (r.age + 1) limit)
    older false l = le-leb r.age 0 l

    nearer : (b : Bool) → r.deadline ≤ cond b limit 0 → leb (cond b (r.deadline - 1) r.deadline) (cond b limit 0) ≡ true
    nearer true l = le-leb (r.deadline - 1) limit (omega arith)
    nearer false l = le-leb r.deadline 0 l

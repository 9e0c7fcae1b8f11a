-- The check accepts exactly where some event set has the static facts and the marking keeps within it. From an accepting check the
-- closure is such a set; and the closure is the least that can be, so whatever reason it gave would be one for any such set too. Hence the
-- closure never grows. Assumes nothing.
use Rattle.std.specs.Prelude.{◌≡◌, refl, Bool, ◌&&◌, ◌||◌, cond, ◌⊎◌, ℕ, ◌<◌, ltb}
use Rattle.std.proofs.Common.{◌∙◌, ap, inl, inr, arith}
use Rattle.std.proofs.Math.Path.{subst}
use Rattle.std.proofs.Math.Bool.{true, false, not}
use Rattle.std.proofs.Math.Logic.{⊎_elim}
use Rattle.std.proofs.Math.Dec.{eqb}
use borrow.Author.Tests.{eqb-true, eqb-false, eq-eqb, lt-ltb, le-ltb, ltb-true, ltb-false}
use Rattle.rules.specs.declared.Table.{Table}
use Rattle.rules.specs.declared.Marking.{Marking}
use Rattle.rules.specs.CheckAnswer.{CheckAnswer, Refused, Accepts, Rejects}
use Rattle.rules.specs.Counting.{some, lowest}
use Rattle.rules.specs.Numbers.{check_number}
use Rattle.rules.specs.EventSet.{has}
use Rattle.rules.specs.Holds.{is_condition, is_response, is_inclusion, is_exclusion, is_milestone, is_controllable, is_causable, relation_of, record_of}
use Rattle.rules.specs.Judge.{judged}
use Rattle.rules.specs.Closure.{busy, inhibits, followed, closure}
use Rattle.rules.specs.Check.{unreportable, uncausable, waiting, awaited, on_cycle, reopening, reviving, reason, verdict, check}
use Rattle.rules.proofs.Laws.Tests.{clash, denied, affirmed, not_true, both, join, either, or_left, or_right}
use Rattle.rules.proofs.Laws.Counting.{some_where, some_at, Found, Lacks, lowest_cases, lowest_none}
use Rattle.rules.specs.Shapes.Good.{GoodTable}
use Rattle.rules.proofs.Laws.Judge.{good}
use Rattle.rules.proofs.Laws.Closure.{closure_busy, closure_on, closure_within}
use Rattle.rules.proofs.Demand3.Records.{under_deadline}
use Rattle.rules.proofs.Demand3.Facts.{bounded_response}
use Rattle.rules.proofs.Demand3.Invariant.{Static, Invariant}

-- a reason that applies nowhere hands on to the next, and only such a one does if all is accepted
reason_passed : (number n : ℕ) (applies : ℕ → Bool) (next : CheckAnswer) → reason number n applies next ≡ Accepts
    → ((x : ℕ) → x < n → applies x ≡ false) × (next ≡ Accepts)
reason_passed number n applies next h = go (lowest n applies) (lowest_cases applies n) h
  where
    go : (place : ℕ) → Found applies n place ⊎ Lacks applies n place → cond (ltb place n) (Rejects number place) next ≡ Accepts
        → ((x : ℕ) → x < n → applies x ≡ false) × (next ≡ Accepts)
    go place (inl d) p = absurd (omega (arith, ap check_number (rw (lt-ltb place n d.small) at p)))
    go place (inr d) p = (d.nowhere, rw (le-ltb place n (omega (arith, d.whole))) at p)

reason_passes : (number n : ℕ) (applies : ℕ → Bool) (next : CheckAnswer) → ((x : ℕ) → x < n → applies x ≡ false) → next ≡ Accepts
    → reason number n applies next ≡ Accepts
reason_passes number n applies next h p = rw (lowest_none applies n h, le-ltb n n (omega arith)) p

-- what an accepting check says of each place
pub record Passed (t : Table) (m : Marking) (X : ℕ) : Type 0 where
  pub none_unreportable : (e : ℕ) → e < t.events → unreportable t m e ≡ false
  pub none_uncausable : (e : ℕ) → e < t.events → uncausable t X e ≡ false
  pub none_waiting : (k : ℕ) → k < t.count → waiting t X k ≡ false
  pub none_on_cycle : (e : ℕ) → e < t.events → on_cycle t X e ≡ false
  pub none_reopening : (k : ℕ) → k < t.count → reopening t X k ≡ false
  pub none_reviving : (k : ℕ) → k < t.count → reviving t X k ≡ false

pub passed : (t : Table) (m : Marking) → verdict t m ≡ Accepts → Passed t m (closure t m)
unfolding verdict
passed t m h =
    let first = reason_passed 1 t.events (unreportable t m) _ h in
    let second = reason_passed 2 t.events (uncausable t (closure t m)) _ first.1 in
    let third = reason_passed 3 t.count (waiting t (closure t m)) _ second.1 in
    let fourth = reason_passed 4 t.events (on_cycle t (closure t m)) _ third.1 in
    let fifth = reason_passed 5 t.count (reopening t (closure t m)) _ fourth.1 in
    let sixth = reason_passed 6 t.count (reviving t (closure t m)) _ fifth.1 in
    record {
      none_unreportable = first.0;
      none_uncausable = second.0;
      none_waiting = third.0;
      none_on_cycle = fourth.0;
      none_reopening = fifth.0;
      none_reviving = sixth.0;
    }

passes : (t : Table) (m : Marking) → Passed t m (closure t m) → verdict t m ≡ Accepts
unfolding verdict
passes t m p =
    reason_passes 1 t.events (unreportable t m) _ p.none_unreportable
    (reason_passes 2 t.events (uncausable t (closure t m)) _ p.none_uncausable
    (reason_passes 3 t.count (waiting t (closure t m)) _ p.none_waiting
    (reason_passes 4 t.events (on_cycle t (closure t m)) _ p.none_on_cycle
    (reason_passes 5 t.count (reopening t (closure t m)) _ p.none_reopening
    (reason_passes 6 t.count (reviving t (closure t m)) _ p.none_reviving refl)))))

-- what reasons 1 and 5 look for among the relations
module _ (t : Table) where
  abbrev stopping : ℕ → ℕ → Bool
  stopping e k = is_exclusion (relation_of t k) && eqb (relation_of t k).right e || inhibits (relation_of t k) && eqb (relation_of t k).left e

  abbrev milestoned : ℕ → ℕ → ℕ → Bool
  milestoned X x j = is_milestone (relation_of t j) && has X (relation_of t j).left && eqb (relation_of t j).right x

-- the parts of each reason
module _ (t : Table) (m : Marking) (good_t : GoodTable t) (X : ℕ) (p : Passed t m X) where
  -- reason 1
  reported : (e k : ℕ) → e < t.events → k < t.count → stopping t e k ≡ true → is_controllable t e ≡ true
  unfolding unreportable
  reported e k b l h =
      affirmed (is_controllable t e)
      (λ q. clash (join (ap not q) (or_right (not (record_of m e).included) _ (some_at (stopping t e) t.count k l h))) (p.none_unreportable e b))

  included : (e : ℕ) → e < t.events → is_controllable t e ≡ false → (record_of m e).included ≡ true
  unfolding unreportable
  included e b h =
      affirmed (record_of m e).included
      (λ q. clash (join (ap not h) (or_left (not (record_of m e).included) _ (ap not q))) (p.none_unreportable e b))

  told_static : ((k : ℕ) → k < t.count → bounded_response (relation_of t k) ≡ true → has X (relation_of t k).right ≡ true)
      → ((k : ℕ) → k < t.count → followed (relation_of t k) ≡ true → has X (relation_of t k).left ≡ true → has X (relation_of t k).right ≡ true)
      → Static t X
  unfolding uncausable waiting on_cycle reopening reviving
  told_static busy-in closed =
      record {
        responses_in = busy-in;
        closed = closed;
        causable = λ e b h. affirmed (is_causable t e) (λ q. clash (join h (ap not q)) (p.none_uncausable e b));
        untimed = λ k b c h. let q = denied (ltb 0 (relation_of t k).time) (λ l. clash (join (join c h) l) (p.none_waiting k b)) in
            omega (arith, ltb-false 0 (relation_of t k).time q);
        acyclic = λ e b h. denied (has (awaited t e) e) (λ q. clash (join h q) (p.none_on_cycle e b));
        not_reopened = λ k j b l r h s i q. clash
            (join (join r h) (some_at (milestoned t X (relation_of t k).right) t.count j l (join (join s i) (eq-eqb _ _ q))))
            (p.none_reopening k b);
        not_revived = λ k b i h l. eqb-true _ _
            (affirmed (eqb (relation_of t k).left (relation_of t k).right) (λ q. clash (join (join (join i h) l) (ap not q)) (p.none_reviving k b)));
        excluded_controllable = λ k b h. let f = (relation_of t k).right in
            reported f k (good_t.relations_good k b).right_exists b (or_left (is_exclusion (relation_of t k) && eqb f f) _ (join h (eq-eqb f f refl)));
        held_controllable = λ k b h. let e = (relation_of t k).left in
            reported e k (good_t.relations_good k b).left_exists b
            (or_right (is_exclusion (relation_of t k) && eqb (relation_of t k).right e) _ (join h (eq-eqb e e refl)));
      }

-- the facts of a set give no reason against any set within it
module _ (t : Table) (X C : ℕ) (st : Static t X) (m : Marking) (v : Invariant t X m) (within : (x : ℕ) → has C x ≡ true → has X x ≡ true) where
  no_reason : Passed t m C
  unfolding unreportable uncausable waiting on_cycle reopening reviving
  no_reason =
      record {
        none_unreportable = λ e b. denied (unreportable t m e) (λ h. let p = both (not (is_controllable t e)) _ h in
            unreported e b (not_true (is_controllable t e) p.0) p.1);
        none_uncausable = λ e b. denied (uncausable t C e) (λ h. let p = both (has C e) (not (is_causable t e)) h in
            clash (st.causable e b (within e p.0)) (not_true (is_causable t e) p.1));
        none_waiting = λ k b. denied (waiting t C k) (λ h.
            let p = both (is_condition (relation_of t k) && has C (relation_of t k).left) (ltb 0 (relation_of t k).time) h in
            let q = both (is_condition (relation_of t k)) (has C (relation_of t k).left) p.0 in
            omega (arith, ltb-true 0 (relation_of t k).time p.1, st.untimed k b q.0 (within _ q.1)));
        none_on_cycle = λ e b. denied (on_cycle t C e) (λ h. let p = both (has C e) (has (awaited t e) e) h in clash p.1 (st.acyclic e b (within e p.0)));
        none_reopening = λ k b. denied (reopening t C k) (λ h. let p = both (is_response (relation_of t k) && has C (relation_of t k).left) _ h in
            let q = both (is_response (relation_of t k)) (has C (relation_of t k).left) p.0 in
            awaits k b q.0 (within _ q.1) p.1);
        none_reviving = λ k b. denied (reviving t C k) (λ h.
            let own = eqb (relation_of t k).left (relation_of t k).right in
            let p = both (is_inclusion (relation_of t k) && has C (relation_of t k).left && has C (relation_of t k).right) (not own) h in
            let q = both (is_inclusion (relation_of t k) && has C (relation_of t k).left) (has C (relation_of t k).right) p.0 in
            let r = both (is_inclusion (relation_of t k)) (has C (relation_of t k).left) q.0 in
            clash (eq-eqb _ _ (st.not_revived k b r.0 (within _ r.1) (within _ q.1))) (not_true own p.1));
      }
    where
      -- reason 1
      unreported : (e : ℕ) → e < t.events → is_controllable t e ≡ false → not (record_of m e).included || some t.count (stopping t e) ≡ true → ⊥
      unreported e b c h =
          ⊎_elim
          (λ p. clash (v.uncontrollable_included e b c) (not_true (record_of m e).included p))
          (λ p. let k = some_where (stopping t e) t.count p in against k.0 k.1 k.2)
          (either (not (record_of m e).included) (some t.count (stopping t e)) h)
        where
          controlled : (f : ℕ) → eqb f e ≡ true → is_controllable t f ≡ true → ⊥
          controlled f q i = clash (subst (λ (y : ℕ). is_controllable t y ≡ true) (eqb-true f e q) i) c

          against : (k : ℕ) → k < t.count → stopping t e k ≡ true → ⊥
          against k l q =
              ⊎_elim
              (λ i. let r = both (is_exclusion (relation_of t k)) (eqb (relation_of t k).right e) i in
              controlled (relation_of t k).right r.1 (st.excluded_controllable k l r.0))
              (λ i. let r = both (inhibits (relation_of t k)) (eqb (relation_of t k).left e) i in
              controlled (relation_of t k).left r.1 (st.held_controllable k l r.0))
              (either (is_exclusion (relation_of t k) && eqb (relation_of t k).right e) (inhibits (relation_of t k) && eqb (relation_of t k).left e) q)

      -- reason 5
      awaits : (k : ℕ) → k < t.count → is_response (relation_of t k) ≡ true → has X (relation_of t k).left ≡ true
          → some t.count (milestoned t C (relation_of t k).right) ≡ true → ⊥
      awaits k b r h s =
          let j = some_where (milestoned t C (relation_of t k).right) t.count s in
          let found = relation_of t j.0 in
          let p = both (is_milestone found && has C found.left) (eqb found.right (relation_of t k).right) j.2 in
          let q = both (is_milestone found) (has C found.left) p.0 in
          st.not_reopened k j.0 b j.1 r h q.0 (within _ q.1) (eqb-true _ _ p.1)

-- what is busy in the marking, or for the table
module _ (t : Table) (m : Marking) (x : ℕ) where
  abbrev bounds : ℕ → Bool
  bounds k = is_response (relation_of t k) && (relation_of t k).bounded && eqb (relation_of t k).right x

  busy_within : (P : ℕ → Type 0) → (under_deadline (record_of m x) ≡ true → P x)
      → ((k : ℕ) → k < t.count → bounded_response (relation_of t k) ≡ true → P (relation_of t k).right) → busy t m x ≡ true → P x
  unfolding busy
  busy_within P marked asked h =
      ⊎_elim
      marked
      (λ p. let k = some_where bounds t.count p in
      let q = both (bounded_response (relation_of t k.0)) (eqb (relation_of t k.0).right x) k.2 in
      subst P (eqb-true _ _ q.1) (asked k.0 k.1 q.0))
      (either (under_deadline (record_of m x)) (some t.count bounds) h)

  busy_marked : under_deadline (record_of m x) ≡ true → busy t m x ≡ true
  unfolding busy
  busy_marked h = or_left (under_deadline (record_of m x)) _ h

  busy_asked : (k : ℕ) → k < t.count → bounded_response (relation_of t k) ≡ true → (relation_of t k).right ≡ x → busy t m x ≡ true
  unfolding busy
  busy_asked k b h q = or_right (under_deadline (record_of m x)) _ (some_at bounds t.count k b (join h (eq-eqb (relation_of t k).right x q)))

-- the closure is the least set that has the bounded responses, is closed, and has what is under a deadline
pub closure_least : (t : Table) (X : ℕ) → Static t X → (m : Marking) → Invariant t X m → (x : ℕ) → has (closure t m) x ≡ true → has X x ≡ true
closure_least t X st m v =
    closure_within t (good t m v.judged_done).table_good m (λ x. has X x ≡ true) st.closed
    (λ x b h. busy_within t m x (λ y. has X y ≡ true) (v.deadlines_in x b) st.responses_in h)

-- a set with the facts is enough for the check to accept
pub suffices : (t : Table) (X : ℕ) → Static t X → (m : Marking) → Invariant t X m → verdict t m ≡ Accepts
suffices t X st m v = passes t m (no_reason t X (closure t m) st m v (closure_least t X st m v))

module _ (t : Table) (m : Marking) (done : judged t m ≡ 0) (accepts : verdict t m ≡ Accepts) where
  good_t : GoodTable t
  good_t = (good t m done).table_good

  pub closure_static : Static t (closure t m)
  closure_static =
      told_static t m good_t (closure t m) (passed t m accepts)
      (λ k b h. closure_busy t good_t m (relation_of t k).right (good_t.relations_good k b).right_exists (busy_asked t m _ k b h refl))
      (closure_on t good_t m)

  pub closure_invariant : Invariant t (closure t m) m
  closure_invariant =
      record {
        judged_done = done;
        deadlines_in = λ x b h. closure_busy t good_t m x b (busy_marked t m x h);
        uncontrollable_included = included t m good_t (closure t m) (passed t m accepts);
      }

-- a check that accepts: judged values and an accepting verdict, and the other way round
pub check_parts : (t : Table) (m : Marking) → check t m ≡ Accepts → (judged t m ≡ 0) × (verdict t m ≡ Accepts)
unfolding check
check_parts t m h = go (judged t m) refl (eqb (judged t m) 0) refl h
  where
    go : (n : ℕ) → judged t m ≡ n → (b : Bool) → eqb n 0 ≡ b → cond b (verdict t m) (Refused n) ≡ Accepts → (judged t m ≡ 0) × (verdict t m ≡ Accepts)
    go n e true z p = (e ∙ eqb-true n 0 z, p)
    go n e false z p = absurd (eqb-false n 0 z (ap check_number p))

pub check_accepts : (t : Table) (m : Marking) → judged t m ≡ 0 → verdict t m ≡ Accepts → check t m ≡ Accepts
unfolding check
check_accepts t m p q = rw (p, q)

-- a check that rejects: judged values, and a verdict that rejects so
is_refusal : CheckAnswer → Bool
is_refusal (Refused n) = true
is_refusal Accepts = false
is_refusal (Rejects why at) = false

pub check_rejects : (t : Table) (m : Marking) (why at : ℕ) → check t m ≡ Rejects why at → (judged t m ≡ 0) × (verdict t m ≡ Rejects why at)
unfolding check is_refusal
check_rejects t m why at h = go (judged t m) refl (eqb (judged t m) 0) refl h
  where
    go : (n : ℕ) → judged t m ≡ n → (b : Bool) → eqb n 0 ≡ b → cond b (verdict t m) (Refused n) ≡ Rejects why at
        → (judged t m ≡ 0) × (verdict t m ≡ Rejects why at)
    go n e true z p = (e ∙ eqb-true n 0 z, p)
    go n e false z p = absurd (clash {b = true} refl (ap is_refusal p))

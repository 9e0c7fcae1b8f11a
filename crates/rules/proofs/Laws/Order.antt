-- The order of taking. Where no needed event waits for itself along followed relations, it takes each needed event once and nothing else,
-- and each one's needed inhibitors before it: were no untaken event ready, a walk from one untaken event to the next would see new events
-- for ever, and there are only so many. Assumes nothing.
use Rattle.std.specs.Prelude.{◌≡◌, Bool, not, ◌&&◌, ◌||◌, List, [], ◌∷◌, ◌⊎◌, eqb, ltb, length}
use Rattle.std.proofs.Math.Path.{refl}
use Rattle.std.proofs.Common.{◌∙◌, sym, inl, inr, arith}
use Rattle.std.proofs.Math.Bool.{true, false, cond}
use Rattle.std.proofs.Math.Logic.{⊎_elim}
use Prim.Native.Nat.{ℕ, zero, suc, ◌<◌, ◌≤◌, ◌+◌, ◌-◌, ◌^◌}
use borrow.Author.Tests.{eqb-true, eqb-false, eq-eqb, lt-ltb, le-ltb}
use Rattle.rules.specs.declared.Table.{Table}
use Rattle.rules.specs.declared.Marking.{Marking}
use Rattle.rules.specs.Counting.{some, lowest, how_many, times}
use Rattle.rules.specs.EventSet.{has}
use Rattle.rules.specs.Closure.{follows}
use Rattle.rules.specs.Check.{awaited}
use Rattle.rules.specs.Guard.{needed, ready, order_of, order}
use Rattle.rules.proofs.Laws.Tests.{decide, clash, denied, not_true, both, either, join, or_right}
use Rattle.rules.proofs.Laws.Counting.{some_where, some_at, Found, Lacks, lowest_cases, lowest_none, many_le, many_lt}
use Rattle.rules.proofs.Laws.EventSet.{has_zero, has_minus_same, has_minus_other}
use Rattle.rules.specs.Shapes.Good.{GoodTable}
use Rattle.rules.proofs.Laws.Closure.{Awaits, first, further, awaits_awaited}

-- what an order is, for the events still untaken: it ends when none is left, and the next has no untaken inhibitor that is followed
pub data Takes (t : Table) : ℕ → List ℕ → Type 0 where
  none_left : {untaken : ℕ} → ((x : ℕ) → x < t.events → has untaken x ≡ false) → Takes t untaken []
  next : {untaken e : ℕ} {rest : List ℕ} → e < t.events → has untaken e ≡ true
      → ((f : ℕ) → f < t.events → follows t e f ≡ true → has untaken f ≡ false)
      → Takes t (untaken - 2 ^ e) rest → Takes t untaken (e ∷ rest)

-- A walk through events each of which has a next one, none coming back to itself, sees more and more events.
module _ (t : Table) (seen : ℕ → Bool) (x : ℕ) where
  -- the events seen, and x
  abbrev and_one : ℕ → Bool
  and_one v = seen v || eqb v x

  has_new : and_one x ≡ true
  has_new = or_right (seen x) (eqb x x) (eq-eqb x x refl)

  seen_more : x < t.events → seen x ≡ false → how_many t.events seen < how_many t.events and_one
  seen_more b s = many_lt seen and_one (λ y h. rw h) t.events x b s has_new

module _ (t : Table) (U : ℕ → Bool)
    (onward : (x : ℕ) → x < t.events → U x ≡ true → (y : ℕ) × (y < t.events) × (follows t x y ≡ true) × (U y ≡ true))
    (free : (x : ℕ) → x < t.events → U x ≡ true → Awaits t x x → ⊥)
  where
    walk : (room : ℕ) (seen : ℕ → Bool) (x : ℕ) → x < t.events → U x ≡ true → seen x ≡ false
        → ((v : ℕ) → seen v ≡ true → Awaits t v x) → t.events ≤ room + how_many t.events seen → ⊥
    walk zero seen x b u s r h = omega (arith, seen_more t seen x b s, many_le (and_one t seen x) t.events)
    walk (suc room) seen x b u s r h =
        let y = onward x b u in
        walk room (and_one t seen x) y.0 y.1 y.3
        (denied (and_one t seen x y.0) (λ p. ⊎_elim
        (λ q. free y.0 y.1 y.3 (further (r y.0 q) y.2))
        (λ q. free x b u (first (rw (eqb-true y.0 x q) at y.2)))
        (either (seen y.0) (eqb y.0 x) p)))
        (λ v p. ⊎_elim
        (λ q. further (r v q) y.2)
        (λ q. rw (eqb-true v x q) (first y.2))
        (either (seen v) (eqb v x) p))
        (omega (arith, seen_more t seen x b s))

    -- so there is no such event
    nobody : (x : ℕ) → x < t.events → U x ≡ false
    nobody x b = denied (U x) (λ u. walk t.events (λ v. false) x b u refl (λ v p. absurd (clash p refl)) (omega arith))

module _ (t : Table) where
  abbrev inhibitor_left : ℕ → ℕ → ℕ → Bool
  inhibitor_left untaken e f = follows t e f && has untaken f

  ready_parts : (untaken e : ℕ) → ready t untaken e ≡ true
      → (has untaken e ≡ true) × ((f : ℕ) → f < t.events → follows t e f ≡ true → has untaken f ≡ false)
  unfolding ready
  ready_parts untaken e h =
      let p = both (has untaken e) (not (some t.events (inhibitor_left untaken e))) h in
      (p.0, λ f b i. denied (has untaken f) (λ q. clash (some_at (inhibitor_left untaken e) t.events f b (join i q)) (not_true _ p.1)))

  -- an untaken event that is not ready has an untaken inhibitor
  waits : (untaken x : ℕ) → ready t untaken x ≡ false → has untaken x ≡ true
      → (y : ℕ) × (y < t.events) × (follows t x y ≡ true) × (has untaken y ≡ true)
  unfolding ready
  waits untaken x h u =
      ⊎_elim
      (λ (q : some t.events (inhibitor_left untaken x) ≡ true). let y = some_where (inhibitor_left untaken x) t.events q in
      let p = both (follows t x y.0) (has untaken y.0) y.2 in
      (y.0, y.1, p.0, p.1))
      (λ (q : some t.events (inhibitor_left untaken x) ≡ false). absurd (clash (rw (u, q)) h))
      (decide (some t.events (inhibitor_left untaken x)))

  -- one taken: the others stay, and fewer are left
  pub stays : (untaken e x : ℕ) → has untaken e ≡ true → has (untaken - 2 ^ e) x ≡ true → has untaken x ≡ true
  stays untaken e x h p =
      ⊎_elim
      (λ q. rw (eqb-true x e q) h)
      (λ q. sym (has_minus_other untaken e h x (eqb-false x e q)) ∙ p)
      (decide (eqb x e))

  fewer : (untaken e : ℕ) → e < t.events → has untaken e ≡ true
      → how_many t.events (has (untaken - 2 ^ e)) < how_many t.events (has untaken)
  fewer untaken e b h =
      many_lt (has (untaken - 2 ^ e)) (has untaken) (λ x p. stays untaken e x h p) t.events e b (has_minus_same untaken e h) h

  -- the computed list is an order
  pub order_takes : (n untaken : ℕ) → how_many t.events (has untaken) ≤ n
      → ((x : ℕ) → x < t.events → has untaken x ≡ true → Awaits t x x → ⊥)
      → Takes t untaken (order_of t n untaken)
  unfolding order_of
  order_takes zero untaken h free = none_left (λ x b. denied (has untaken x) (λ u. empty x b u))
    where
      empty : (x : ℕ) → x < t.events → has untaken x ≡ true → ⊥
      empty x b u = omega (arith, many_lt (λ y. false) (has untaken) (λ y p. absurd (clash p refl)) t.events x b refl u)
  order_takes (suc n) untaken h free =
      go (lowest t.events (ready t untaken)) (lowest_cases (ready t untaken) t.events) (order_takes n)
    where
      go : (e : ℕ) → Found (ready t untaken) t.events e ⊎ Lacks (ready t untaken) t.events e
          → ((u : ℕ) → how_many t.events (has u) ≤ n → ((x : ℕ) → x < t.events → has u x ≡ true → Awaits t x x → ⊥) → Takes t u (order_of t n u))
          → Takes t untaken (cond (ltb e t.events) (e ∷ order_of t n (untaken - 2 ^ e)) [])
      go e (inl d) ih =
          let p = ready_parts untaken e d.holds in
          rw (lt-ltb e t.events d.small)
          (next d.small p.0 p.1
          (ih (untaken - 2 ^ e) (omega (arith, fewer untaken e d.small p.0)) (λ x b u. free x b (stays untaken e x p.0 u))))
      go e (inr d) ih =
          rw (le-ltb e t.events (omega (arith, d.whole)))
          (none_left (nobody t (has untaken) (λ x b u. waits untaken x (d.nowhere x b) u) free))

  -- an order has each event once, and nothing else
  pub takes_once : {untaken : ℕ} {l : List ℕ} → Takes t untaken l → (x : ℕ) → x < t.events → times x l ≡ cond (has untaken x) 1 0
  unfolding times
  takes_once (none_left h) x b = rw (h x b)
  takes_once (next {untaken} {e} {rest} c p q r) x b = go (decide (eqb x e)) (takes_once r x b)
    where
      go : (eqb x e ≡ true) ⊎ (eqb x e ≡ false) → times x rest ≡ cond (has (untaken - 2 ^ e) x) 1 0
          → cond (eqb x e) (suc (times x rest)) (times x rest) ≡ cond (has untaken x) 1 0
      go (inl y) ih =
          let s : x ≡ e = eqb-true x e y in
          let gone : has (untaken - 2 ^ e) x ≡ false = rw s (has_minus_same untaken e p) in
          let here : has untaken x ≡ true = rw s p in
          rw (y, ih, gone, here)
      go (inr y) ih = rw (y, ih, has_minus_other untaken e p x (eqb-false x e y))

  -- what is in an order is an event that was untaken
  pub takes_only : {untaken : ℕ} {l : List ℕ} → Takes t untaken l → (x : ℕ) → 1 ≤ times x l → (x < t.events) × (has untaken x ≡ true)
  unfolding times
  takes_only (none_left h) x b = absurd (omega arith)
  takes_only (next {untaken} {e} {rest} c p q r) x b = go (decide (eqb x e)) (takes_only r x) b
    where
      go : (eqb x e ≡ true) ⊎ (eqb x e ≡ false) → (1 ≤ times x rest → (x < t.events) × (has (untaken - 2 ^ e) x ≡ true))
          → 1 ≤ cond (eqb x e) (suc (times x rest)) (times x rest) → (x < t.events) × (has untaken x ≡ true)
      go (inl y) ih l = let s : x ≡ e = eqb-true x e y in (rw s c, rw s p)
      go (inr y) ih l = let i = ih (rw y at l) in (i.0, stays untaken e x p i.1)

  -- so nothing is in it twice
  pub takes_at_most_once : {untaken : ℕ} {l : List ℕ} → Takes t untaken l → (x : ℕ) → times x l ≤ 1
  takes_at_most_once {untaken} {l} order x = go (times x l) refl
    where
      at_most : (b : Bool) → cond b 1 0 ≤ 1
      at_most true = omega arith
      at_most false = omega arith

      go : (n : ℕ) → times x l ≡ n → n ≤ 1
      go zero e = omega arith
      go (suc n) e = omega (arith, e, takes_once order x (takes_only order x (omega (arith, e))).0, at_most (has untaken x))

  -- nothing to take, nothing taken
  pub takes_none : {l : List ℕ} → Takes t 0 l → l ≡ []
  takes_none (none_left d) = refl
  takes_none (next {e = e} b p q r) = absurd (clash p (has_zero e))

-- The order of taking, where no needed event waits for itself.
module _ (t : Table) (good : GoodTable t) (m : Marking) (free : (x : ℕ) → has (needed t m) x ≡ true → has (awaited t x) x ≡ false) where
  pub order_is : Takes t (needed t m) (order t m)
  order_is =
      order_takes t t.events (needed t m) (many_le (has (needed t m)) t.events)
      (λ x b n w. clash (awaits_awaited t good x w) (free x n))

-- The order of taking, one event more.
module _ (t : Table) (untaken : ℕ) where
  pub order_none : (k : ℕ) → lowest t.events (ready t untaken) ≡ t.events → order_of t k untaken ≡ []
  unfolding order_of
  order_none zero e = refl
  order_none (suc k) e = rw (e, le-ltb t.events t.events (omega arith))

  pub order_more : (k e : ℕ) → lowest t.events (ready t untaken) ≡ e → e < t.events → order_of t (suc k) untaken ≡ e ∷ order_of t k (untaken - 2 ^ e)
  unfolding order_of
  order_more k e q b = rw (q, lt-ltb e t.events b)

  pub order_end : order_of t 0 untaken ≡ []
  unfolding order_of
  order_end = refl

-- with nothing to take there is no order
pub order_empty : (t : Table) (k : ℕ) → order_of t k 0 ≡ []
unfolding ready
order_empty t k = order_none t 0 k (lowest_none (ready t 0) t.events (λ y b. rw (has_zero y)))

-- no more events are taken than asked for
pub order_length : (t : Table) (n untaken : ℕ) → length (order_of t n untaken) ≤ n
unfolding order_of
order_length t zero untaken = omega arith
order_length t (suc n) untaken = go (lowest t.events (ready t untaken)) (order_length t n)
  where
    go : (e : ℕ) → ((u : ℕ) → length (order_of t n u) ≤ n) → length (cond (ltb e t.events) (e ∷ order_of t n (untaken - 2 ^ e)) []) ≤ suc n
    go e ih = at (ltb e t.events)
      where
        at : (b : Bool) → length (cond b (e ∷ order_of t n (untaken - 2 ^ e)) []) ≤ suc n
        at true = omega (arith, ih (untaken - 2 ^ e))
        at false = omega arith

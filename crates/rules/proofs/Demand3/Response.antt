-- How a response meets an old deadline, as a parameter of the argument: what is asked of the rule, and that both have it, the one by which the
-- new deadline replaces the old and the one that takes the smaller. And where the smallest of an event's responses comes from. Assumes
-- nothing.
use Rattle.std.specs.Prelude.{◌≡◌, Bool, ◌&&◌, cond, ◌⊎◌, eqb, leb}
use Rattle.std.proofs.Math.Path.{refl, subst}
use Rattle.std.proofs.Common.{ap, sym, le_of_lt, arith}
use Rattle.std.proofs.Math.Bool.{true, false}
use Rattle.std.proofs.Math.Logic.{⊎_elim, inl, inr}
use Prim.Native.Nat.{ℕ, zero, suc, ◌<◌, ◌≤◌, min}
use Rattle.std.proofs.Math.Nat.{min-eq_left, min-eq_right, min-le_left}
use borrow.Author.Tests.{eqb-true, ne_eqb, leb-true, leb-false, le-leb}
use Rattle.rules.specs.declared.Relation.{Relation}
use Rattle.rules.specs.declared.Table.{Table}
use Rattle.rules.specs.Holds.{limit, is_condition, is_response, relation_of}
use Rattle.rules.specs.Judge.{time_fits}
use Rattle.rules.specs.Effect.{Deadline, none, eventually, within, smaller, is_pending, ticks_of, meets, leads, given, smallest, response}
use Rattle.rules.specs.Deadline.{no_later}
use Rattle.rules.proofs.Laws.Tests.{clash, both}
use Rattle.rules.specs.Shapes.Good.{GoodTable}

-- a deadline that has run out
abbrev pub is_zero : Deadline → Bool
is_zero none = false
is_zero eventually = false
is_zero (within d) = eqb d 0

-- a rule that picks one of two deadlines
abbrev pub Picks : (Deadline → Deadline → Deadline) → Type 0
Picks rule = (old new : Deadline) → (rule old new ≡ old) ⊎ (rule old new ≡ new)

pub replacing_picks : Picks (λ old new. new)
replacing_picks old new = inr refl

pub smaller_picks : Picks smaller
smaller_picks none new = inr refl
smaller_picks eventually none = inl refl
smaller_picks eventually eventually = inl refl
smaller_picks eventually (within d) = inr refl
smaller_picks (within c) none = inl refl
smaller_picks (within c) eventually = inl refl
smaller_picks (within c) (within d) = go (leb c d) refl
  where
    go : (b : Bool) → leb c d ≡ b → (within (min c d) ≡ within c) ⊎ (within (min c d) ≡ within d)
    go true e = inl (ap within (min-eq_left (leb-true c d e)))
    go false e = inr (ap within (min-eq_right (le_of_lt (leb-false c d e))))

pub smaller_no_later : (old new : Deadline) → is_pending old ≡ true → no_later (smaller old new) old ≡ true
smaller_no_later none new h = absurd (clash h refl)
smaller_no_later eventually none h = refl
smaller_no_later eventually eventually h = refl
smaller_no_later eventually (within d) h = refl
smaller_no_later (within c) none h = le-leb c c (omega arith)
smaller_no_later (within c) eventually h = le-leb c c (omega arith)
smaller_no_later (within c) (within d) h = le-leb (min c d) c (min-le_left c d)

-- what is asked of the rule: it picks, and in a firm table it picks no later one than the old
pub record Meeting (firm : Bool) (rule : Deadline → Deadline → Deadline) : Type 0 where
  pub picks : Picks rule
  pub no_later_lem : firm ≡ true → (old new : Deadline) → is_pending old ≡ true → no_later (rule old new) old ≡ true

-- both rules have it
pub meeting : (firm : Bool) → Meeting firm (meets firm)
meeting true = record { picks = smaller_picks; no_later_lem = λ firm. smaller_no_later }
meeting false = record { picks = replacing_picks; no_later_lem = λ firm old new h. absurd (clash firm refl) }

-- what a response gives: so many ticks, or eventually
abbrev pub asked : Relation → Deadline
asked k = cond k.bounded (within k.time) eventually

-- the deadline d that e's responses give x, and the response that gives it
pub record Responds (t : Table) (e x : ℕ) (d : Deadline) : Type 0 where
  pub relation : ℕ
  pub exists : relation < t.count
  pub responds : is_response (relation_of t relation) ≡ true
  pub from : (relation_of t relation).left ≡ e
  pub to : (relation_of t relation).right ≡ x
  pub gives : d ≡ asked (relation_of t relation)

module _ (t : Table) (e x : ℕ) where
  one_gives : (k : ℕ) → k < t.count → (given (relation_of t k) e x ≡ none) ⊎ Responds t e x (given (relation_of t k) e x)
  unfolding given
  one_gives k b = go (is_response (relation_of t k) && leads (relation_of t k) e x) refl
    where
      go : (led : Bool) → is_response (relation_of t k) && leads (relation_of t k) e x ≡ led
          → (cond led (asked (relation_of t k)) none ≡ none) ⊎ Responds t e x (cond led (asked (relation_of t k)) none)
      go true h =
          let p = both (is_response (relation_of t k)) (leads (relation_of t k) e x) h in
          let q = both (eqb (relation_of t k).left e) (eqb (relation_of t k).right x) p.1 in
          inr (record { relation = k; exists = b; responds = p.0; from = eqb-true _ _ q.0; to = eqb-true _ _ q.1; gives = refl })
      go false h = inl refl

  smallest_gives : (n : ℕ) → n ≤ t.count → (smallest t e x n ≡ none) ⊎ Responds t e x (smallest t e x n)
  unfolding smallest
  smallest_gives zero b = inl refl
  smallest_gives (suc n) b =
      ⊎_elim
      (λ p. subst (λ d. (d ≡ none) ⊎ Responds t e x d) (sym p) (smallest_gives n (le_of_lt b)))
      (λ p. subst (λ d. (d ≡ none) ⊎ Responds t e x d) (sym p) (one_gives n b))
      (smaller_picks (smallest t e x n) (given (relation_of t n) e x))

  -- a target of responses gets what one of them gives
  pub response_gives : is_pending (response t e x) ≡ true → Responds t e x (response t e x)
  response_gives h = ⊎_elim (λ p. absurd (clash h (ap is_pending p))) (λ p. p) (smallest_gives t.count (omega arith))

-- a judged response gives at least one tick, and at most the limit
timely : (k : Relation) → time_fits k ≡ true → is_response k ≡ true → (is_zero (asked k) ≡ false) × (ticks_of (asked k) ≤ limit)
unfolding time_fits
timely k fits is = go k.bounded (rw (is) at (rw (other) at fits))
  where
    other : is_condition k ≡ false
    other = ap (λ (n : ℕ). eqb n 1) (eqb-true k.kind 2 is)

    go : (b : Bool) → cond b (leb 1 k.time && leb k.time limit) (eqb k.time 0) ≡ true
        → (is_zero (cond b (within k.time) eventually) ≡ false) × (ticks_of (cond b (within k.time) eventually) ≤ limit)
    go true h =
        let p = both (leb 1 k.time) (leb k.time limit) h in
        (ne_eqb k.time 0 (λ q. omega (arith, leb-true 1 k.time p.0, q)), leb-true k.time limit p.1)
    go false h = (refl, omega arith)

module _ (t : Table) (good : GoodTable t) (e x : ℕ) where
  pub response_timely : (is_zero (response t e x) ≡ false) × (ticks_of (response t e x) ≤ limit)
  response_timely = go (response t e x) (smallest_gives t e x t.count (omega arith))
    where
      go : (d : Deadline) → (d ≡ none) ⊎ Responds t e x d → (is_zero d ≡ false) × (ticks_of d ≤ limit)
      go d (inl p) = rw p (refl, omega arith)
      go d (inr r) = rw r.gives (timely (relation_of t r.relation) (good.relations_good r.relation r.exists).fits r.responds)

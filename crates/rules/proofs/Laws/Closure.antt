-- The closure: it has the busy events, is closed under the inhibitors that are followed, and is the least such set; and the events that an
-- event waits for are those that it comes to by one or more followed relations. Assumes nothing.
use Rattle.std.specs.Prelude.{◌≡◌, refl, Bool, true, ◌&&◌, ℕ, ◌<◌, ◌^◌, eqb}
use Rattle.std.proofs.Common.{◌∙◌, sym}
use Rattle.std.proofs.Math.Path.{subst}
use borrow.Author.Tests.{eqb-true, eq-eqb}
use Rattle.rules.specs.declared.Table.{Table}
use Rattle.rules.specs.declared.Marking.{Marking}
use Rattle.rules.specs.EventSet.{has, set_of}
use Rattle.rules.specs.Holds.{relation_of}
use Rattle.rules.specs.Effect.{leads}
use Rattle.rules.specs.Closure.{busy, followed, follows, widened_fully, closure}
use Rattle.rules.specs.Check.{awaited}
use Rattle.rules.proofs.Laws.Tests.{both, join}
use Rattle.rules.proofs.Laws.Counting.{some_where, some_at}
use Rattle.rules.proofs.Laws.EventSet.{set_lt_power, set_has, set_holds}
use Rattle.rules.specs.Shapes.Good.{GoodTable}
use Rattle.rules.proofs.Laws.Widened.{fully_within, fully_contains, fully_fits, fully_closed}

-- a followed relation, and the events at its ends
module _ (t : Table) where
  abbrev along : ℕ → Bool
  along k = followed (relation_of t k)

  abbrev ends : ℕ → ℕ → ℕ → Bool
  ends e f k = followed (relation_of t k) && leads (relation_of t k) e f

  pub follows_where : (e f : ℕ) → follows t e f ≡ true
      → (k : ℕ) × (k < t.count) × (followed (relation_of t k) ≡ true) × ((relation_of t k).left ≡ e) × ((relation_of t k).right ≡ f)
  unfolding follows
  follows_where e f h =
      let k = some_where (ends e f) t.count h in
      let p = both (along k.0) (leads (relation_of t k.0) e f) k.2 in
      let q = both (eqb (relation_of t k.0).left e) (eqb (relation_of t k.0).right f) p.1 in
      (k.0, k.1, p.0, eqb-true _ _ q.0, eqb-true _ _ q.1)

  pub follows_at : (k : ℕ) → k < t.count → followed (relation_of t k) ≡ true → follows t (relation_of t k).left (relation_of t k).right ≡ true
  unfolding follows
  follows_at k b h =
      let e = (relation_of t k).left in
      let f = (relation_of t k).right in
      some_at (ends e f) t.count k b (join h (join (eq-eqb e e refl) (eq-eqb f f refl)))

  -- what holds of an event and is handed on by followed relations holds of its inhibitors that are followed
  pub follows_on : (P : ℕ → Type 0) → ((k : ℕ) → k < t.count → followed (relation_of t k) ≡ true → P (relation_of t k).left → P (relation_of t k).right)
      → (e f : ℕ) → follows t e f ≡ true → P e → P f
  follows_on P on e f h p = let k = follows_where e f h in subst P k.4 (on k.0 k.1 k.2 (subst P (sym k.3) p))

-- f is come to from e by one or more followed relations
pub data Awaits (t : Table) (e : ℕ) : ℕ → Type 0 where
  first : {f : ℕ} → follows t e f ≡ true → Awaits t e f
  further : {f g : ℕ} → Awaits t e f → follows t f g ≡ true → Awaits t e g

module _ (t : Table) (good : GoodTable t) where
  right_small : (k : ℕ) → k < t.count → (relation_of t k).right < t.events
  right_small k b = (good.relations_good k b).right_exists

  -- the closure
  module _ (m : Marking) where
    abbrev start : ℕ
    start = set_of t.events (busy t m)

    pub closure_fits : closure t m < 2 ^ t.events
    unfolding closure
    closure_fits = fully_fits t (along t) start (set_lt_power (busy t m) t.events)

    pub closure_busy : (x : ℕ) → x < t.events → busy t m x ≡ true → has (closure t m) x ≡ true
    unfolding closure
    closure_busy x b h = fully_contains t (along t) start x b (set_has (busy t m) t.events x b ∙ h)

    pub closure_on : (k : ℕ) → k < t.count → followed (relation_of t k) ≡ true
        → has (closure t m) (relation_of t k).left ≡ true → has (closure t m) (relation_of t k).right ≡ true
    unfolding closure
    closure_on k b l h = fully_closed t (along t) start (set_lt_power (busy t m) t.events) k b (right_small k b) l h

    pub closure_within : (P : ℕ → Type 0)
        → ((k : ℕ) → k < t.count → followed (relation_of t k) ≡ true → P (relation_of t k).left → P (relation_of t k).right)
        → ((x : ℕ) → x < t.events → busy t m x ≡ true → P x)
        → (x : ℕ) → has (closure t m) x ≡ true → P x
    unfolding closure
    closure_within P on from = fully_within t (along t) P on start (λ x h. let p = set_holds (busy t m) t.events x h in from x p.0 p.1)

  -- the events that e waits for
  module _ (e : ℕ) where
    abbrev next : ℕ
    next = set_of t.events (follows t e)

    pub awaits_awaited : {f : ℕ} → Awaits t e f → has (awaited t e) f ≡ true
    unfolding awaited
    awaits_awaited (first {f} h) =
        let k = follows_where t e f h in
        let b : f < t.events = subst (λ (x : ℕ). x < t.events) k.4 (right_small k.0 k.1) in
        fully_contains t (along t) next f b (set_has (follows t e) t.events f b ∙ h)
    awaits_awaited (further {f} {g} p h) =
        follows_on t (λ x. has (widened_fully t (along t) next) x ≡ true)
        (λ k b l q. fully_closed t (along t) next (set_lt_power (follows t e) t.events) k b (right_small k b) l q)
        f g h (awaits_awaited p)

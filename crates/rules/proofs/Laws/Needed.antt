-- The needed set: it has the due events, goes on to each inhibitor that holds a member back at the start, is the least such set, lies in the
-- closure, and is empty when nothing is due. Assumes nothing.
use Rattle.std.specs.Prelude.{◌≡◌, Bool, true, false, ◌&&◌, ℕ, ◌<◌, ◌^◌}
use Rattle.std.proofs.Common.{◌∙◌, pow_pos}
use Rattle.std.proofs.Math.Path.{sym, subst}
use Rattle.rules.specs.declared.Table.{Table}
use Rattle.rules.specs.declared.Marking.{Marking}
use Rattle.rules.specs.EventSet.{has}
use Rattle.rules.specs.Holds.{relation_of, record_of}
use Rattle.rules.specs.Time.{is_due, any_due, due_set}
use Rattle.rules.specs.Closure.{busy, followed, closure}
use Rattle.rules.specs.Guard.{holds_back, needed}
use Rattle.rules.proofs.Laws.Tests.{clash, denied, both, join, or_left}
use Rattle.rules.proofs.Laws.Counting.{some_not}
use Rattle.rules.proofs.Laws.EventSet.{has_zero, set_lt_power, set_has, set_holds, same_members}
use Rattle.rules.specs.Shapes.Good.{GoodTable}
use Rattle.rules.proofs.Laws.Widened.{has_below, fully_within, fully_contains, fully_fits, fully_closed}
use Rattle.rules.proofs.Laws.Closure.{closure_busy, closure_on}

-- a due event is busy: it is pending with a deadline
pub due_busy : (t : Table) (m : Marking) (x : ℕ) → is_due (record_of m x) ≡ true → busy t m x ≡ true
unfolding is_due busy
due_busy t m x h =
    let r = record_of m x in
    let p = both r.pending _ (both r.included _ h).1 in
    or_left (r.pending && r.bounded) _ (join p.0 (both r.bounded _ p.1).0)

module _ (t : Table) (good : GoodTable t) (m : Marking) (same : m.events ≡ t.events) where
  -- relation k is followed, and its right event holds back its left, in the marking at the start
  abbrev along : ℕ → Bool
  along k = followed (relation_of t k) && holds_back (relation_of t k) (record_of m (relation_of t k).right)

  abbrev due : ℕ → Bool
  due x = is_due (record_of m x)

  pub due_fits : due_set m < 2 ^ t.events
  unfolding due_set
  due_fits = subst (λ (n : ℕ). due_set m < 2 ^ n) same (set_lt_power due m.events)

  pub needed_fits : needed t m < 2 ^ t.events
  unfolding needed
  needed_fits = fully_fits t along (due_set m) due_fits

  pub needed_exists : (x : ℕ) → has (needed t m) x ≡ true → x < t.events
  needed_exists x h = has_below t.events (needed t m) x needed_fits h

  pub needed_due : (x : ℕ) → x < t.events → is_due (record_of m x) ≡ true → has (needed t m) x ≡ true
  unfolding needed due_set
  needed_due x b h = fully_contains t along (due_set m) x b (set_has due m.events x (rw same b) ∙ h)

  pub needed_on : (k : ℕ) → k < t.count → followed (relation_of t k) ≡ true → holds_back (relation_of t k) (record_of m (relation_of t k).right) ≡ true
      → has (needed t m) (relation_of t k).left ≡ true → has (needed t m) (relation_of t k).right ≡ true
  unfolding needed
  needed_on k b l s h = fully_closed t along (due_set m) due_fits k b (good.relations_good k b).right_exists (join l s) h

  pub needed_within : (P : ℕ → Type 0)
      → ((k : ℕ) → k < t.count → followed (relation_of t k) ≡ true → holds_back (relation_of t k) (record_of m (relation_of t k).right) ≡ true
      → P (relation_of t k).left → P (relation_of t k).right)
      → ((x : ℕ) → x < t.events → is_due (record_of m x) ≡ true → P x)
      → (x : ℕ) → has (needed t m) x ≡ true → P x
  unfolding needed due_set
  needed_within P on from =
      fully_within t along P
      (λ k b l. let p = both (followed (relation_of t k)) _ l in on k b p.0 p.1)
      (due_set m)
      (λ x h. let p = set_holds due m.events x h in from x (rw same at p.0) p.1)

  -- it lies in the closure
  pub needed_in_closure : (x : ℕ) → has (needed t m) x ≡ true → has (closure t m) x ≡ true
  needed_in_closure =
      needed_within (λ x. has (closure t m) x ≡ true)
      (λ k b l s p. closure_on t good m k b l p)
      (λ x b h. closure_busy t good m x b (due_busy t m x h))

  -- nothing due, nothing needed
  pub needed_none : any_due m ≡ false → needed t m ≡ 0
  unfolding any_due
  needed_none h =
      same_members t.events (needed t m) 0 needed_fits (pow_pos t.events)
      (λ x b. denied (has (needed t m) x)
      (needed_within (λ y. ⊥) (λ k b l s p. p) (λ y l d. clash d (some_not due m.events y h (rw same l))) x)
      ∙ sym (has_zero x))

-- The guarded tick keeps its promise wherever the check accepts. Assumes nothing.
use Rattle.std.specs.Prelude.{◌≡◌, refl, Bool, true, false, ◌&&◌, cond, List, [], ◌∷◌, ◌++◌, ℕ, suc, ◌<◌, ◌≤◌, eqb, ltb}
use Rattle.std.proofs.Common.{sym, subst, arith, eq-eqb, ltb-true}
use Rattle.rules.specs.declared.Table.{Table}
use Rattle.rules.specs.declared.Marking.{Marking}
use Rattle.rules.specs.CheckAnswer.{Accepts}
use Rattle.rules.specs.Counting.{times}
use Rattle.rules.specs.Holds.{is_causable}
use Rattle.rules.specs.Enabled.{is_enabled}
use Rattle.rules.specs.Effect.{effect}
use Rattle.rules.specs.Closure.{closure}
use Rattle.rules.specs.Check.{check}
use Rattle.rules.specs.Guard.{guarded_tick}
use Rattle.rules.specs.Remedy.{in_turn, effects}
use Rattle.rules.specs.Promised.{Promise}
use Rattle.rules.proofs.Laws.Tests.{both}
use Rattle.rules.proofs.Laws.Judge.{good}
use Rattle.rules.proofs.Laws.Needed.{needed_in_closure}
use Rattle.rules.proofs.Laws.Taken.{caused_length, guarded_is}
use Rattle.rules.proofs.Demand3.Accepts.{closure_static, closure_invariant, check_parts}
use Rattle.rules.proofs.Demand3.Guarded.{caused_in_turn, caused_calm, caused_once, caused_needed, caused_none}

-- an event in the middle of a list that goes in turn
in_turn_at : (t : Table) (m : Marking) (before rest : List ℕ) (e : ℕ) → in_turn t m (before ++ (e ∷ rest)) ≡ true
    → (e < t.events) × (is_causable t e ≡ true) × (is_enabled t (effects t m before) e ≡ true)
unfolding in_turn effects
in_turn_at t m [] rest e h =
    let p = both (ltb e t.events && is_causable t e && is_enabled t m e) _ h in
    let q = both (ltb e t.events && is_causable t e) (is_enabled t m e) p.0 in
    let r = both (ltb e t.events) (is_causable t e) q.0 in
    (ltb-true e t.events r.0, r.1, q.1)
in_turn_at t m (d ∷ before) rest e h = in_turn_at t (effect t m d) before rest e (both (ltb d t.events && is_causable t d && is_enabled t m d) _ h).1

-- what stands in a list is in it at least once
pub listed_once : (before rest : List ℕ) (e : ℕ) → 1 ≤ times e (before ++ (e ∷ rest))
unfolding times
listed_once [] rest e = rw (eq-eqb e e refl) (omega arith)
listed_once (d ∷ before) rest e = go (eqb e d) (listed_once before rest e)
  where
    go : (b : Bool) → 1 ≤ times e (before ++ (e ∷ rest)) → 1 ≤ cond b (suc (times e (before ++ (e ∷ rest)))) (times e (before ++ (e ∷ rest)))
    go true h = omega arith
    go false h = h

-- the promise holds wherever the check accepts
pub promised : (t : Table) (m : Marking) → check t m ≡ Accepts → Promise t m
unfolding guarded_tick
promised t m accepted =
    let p = check_parts t m accepted in
    let st = closure_static t m p.0 p.1 in
    let v = closure_invariant t m p.0 p.1 in
    let g = good t m p.0 in
    record {
      not_refused = rw accepted;
      counted = rw accepted;
      listed = rw accepted;
      room = omega (arith, caused_length t m, g.table_good.few_events);
      passed = rw accepted (guarded_is t m);
      idle = caused_none t (closure t m) st m v;
      each = λ before rest e q.
          let i = in_turn_at t m before rest e (subst (λ (l : List ℕ). in_turn t m l ≡ true) q (caused_in_turn t (closure t m) st m v)) in
          let n = caused_needed t (closure t m) st m v e (subst (λ (l : List ℕ). 1 ≤ times e l) (sym q) (listed_once before rest e)) in
          (i.0, i.1, needed_in_closure t g.table_good m g.marking_good.same_events e n, i.2);
      once = caused_once t (closure t m) st m v;
      calm = caused_calm t (closure t m) st m v;
    }

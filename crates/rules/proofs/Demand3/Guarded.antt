-- What the guarded tick causes, where some set has the static facts and the marking keeps within it: only needed events, each once, each in
-- turn causable and enabled, after which none is due; and nothing when nothing is due. Assumes nothing.
use Rattle.std.specs.Prelude.{◌≡◌, refl, false, cond, List, [], ◌∷◌, ℕ, ◌<◌, ◌≤◌}
use Rattle.std.proofs.Math.Path.{ap, subst}
use Rattle.std.proofs.Math.Bool.{true}
use Rattle.std.proofs.Math.Logic.{⊎_elim}
use Rattle.std.proofs.Common.{arith, lt-ltb}
use Rattle.rules.specs.declared.Table.{Table}
use Rattle.rules.specs.declared.Marking.{Marking}
use Rattle.rules.specs.Counting.{times}
use Rattle.rules.specs.EventSet.{has}
use Rattle.rules.specs.Holds.{record_of}
use Rattle.rules.specs.Enabled.{is_enabled}
use Rattle.rules.specs.Time.{is_due, any_due}
use Rattle.rules.specs.Guard.{needed, order, goes_ahead, taken, taken_all, executed_of, caused}
use Rattle.rules.specs.Remedy.{in_turn, effects}
use Rattle.rules.proofs.Laws.Tests.{decide, join}
use Rattle.rules.proofs.Laws.Counting.{some_false}
use Rattle.rules.specs.Shapes.Good.{GoodTable}
use Rattle.rules.proofs.Laws.Judge.{good}
use Rattle.rules.proofs.Laws.Needed.{needed_exists, needed_none}
use Rattle.rules.proofs.Laws.Order.{Takes, none_left, next, order_is, stays, takes_at_most_once, takes_only, takes_none}
use Rattle.rules.proofs.Laws.Taken.{taken_in, taken_out, taken_effects, executed_fewer}
use Rattle.rules.proofs.Demand3.Invariant.{Static, Invariant}
use Rattle.rules.proofs.Demand3.Progress.{Loop, needed_in, loop_start, loop_turn, turn_enabled, none_due}

module _ (t : Table) (X : ℕ) (st : Static t X) (o : Marking) (j : Invariant t X o) where
  good_t : GoodTable t
  good_t = (good t o j.judged_done).table_good

  same_o : o.events ≡ t.events
  same_o = (good t o j.judged_done).marking_good.same_events

  -- along the order: each that is executed is causable and enabled in turn, and none is due after the last
  along : (m : Marking) {untaken : ℕ} {l : List ℕ} → ((x : ℕ) → has untaken x ≡ true → has (needed t o) x ≡ true)
      → Takes t untaken l → Loop t X o untaken m
      → (in_turn t m (executed_of t m l) ≡ true) × ((x : ℕ) → x < t.events → is_due (record_of (taken_all t m l) x) ≡ false) × ((taken_all t m l).events ≡ t.events)
  unfolding executed_of taken_all in_turn
  along m sub (none_left {untaken} h) v = (refl, none_due t X st o j untaken m v h, v.same_events)
  along m sub (next {untaken} {e} {rest} b u before r) v =
      let need = sub e u in
      let then = along (taken t m e) (λ x p. sub x (stays t untaken e x u p)) r (loop_turn t X st o j untaken m v e b u need) in
      (head (turn_enabled t X st o j untaken m v e b u need before) then.0, then.1, then.2)
    where
      head : (goes_ahead t m e ≡ true → is_enabled t m e ≡ true) → in_turn t (taken t m e) (executed_of t (taken t m e) rest) ≡ true
          → in_turn t m (cond (goes_ahead t m e) (e ∷ executed_of t (taken t m e) rest) (executed_of t (taken t m e) rest)) ≡ true
      head enabled h =
          let on : Marking → Type 0 = λ n. in_turn t n (executed_of t (taken t m e) rest) ≡ true in
          ⊎_elim
          (λ (i : goes_ahead t m e ≡ true). rw i
          (join (join (join (lt-ltb e t.events b) (st.causable e b (needed_in t X st o j e (sub e u)))) (enabled i)) (subst on (taken_in t m e i) h)))
          (λ (i : goes_ahead t m e ≡ false). rw i (subst on (taken_out t m e i) h))
          (decide (goes_ahead t m e))

  takes : Takes t (needed t o) (order t o)
  takes = order_is t good_t o (λ x h. st.acyclic x (needed_exists t good_t o same_o x h) (needed_in t X st o j x h))

  pub caused_in_turn : in_turn t o (caused t o) ≡ true
  unfolding caused
  caused_in_turn = (along o (λ x h. h) takes (loop_start t X st o j)).0

  pub caused_calm : any_due (effects t o (caused t o)) ≡ false
  unfolding caused any_due
  caused_calm =
      let a = along o (λ x h. h) takes (loop_start t X st o j) in
      subst (λ (n : Marking). any_due n ≡ false) (taken_effects t o (order t o))
      (some_false _ _ (λ x b. a.1 x (rw a.2 at b)))

  pub caused_once : (x : ℕ) → times x (caused t o) ≤ 1
  unfolding caused
  caused_once x = omega (arith, executed_fewer t x o (order t o), takes_at_most_once t takes x)

  pub caused_needed : (x : ℕ) → 1 ≤ times x (caused t o) → has (needed t o) x ≡ true
  unfolding caused
  caused_needed x h = (takes_only t takes x (omega (arith, h, executed_fewer t x o (order t o)))).1

  pub caused_none : any_due o ≡ false → caused t o ≡ []
  unfolding caused executed_of
  caused_none h = ap (executed_of t o) (takes_none t (subst (λ (n : ℕ). Takes t n (order t o)) (needed_none t good_t o same_o h) takes))

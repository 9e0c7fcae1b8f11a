-- Taking a list of events, each executed if it goes ahead at its turn, else skipped: it is executing those that are executed, of which there
-- are no more than were taken; and the guarded tick is that, and a tick, and its answer lists what is caused. What going ahead means is asked by
-- the first two laws alone. Assumes nothing.
use Rattle.std.specs.Prelude.{◌≡◌, Bool, ◌⊎◌, replicate}
use Rattle.std.proofs.Math.Path.{refl, ap}
use Rattle.std.proofs.Common.{◌∙◌, inl, inr}
use Rattle.std.proofs.Math.Bool.{true, false, cond}
use mathlib.Core.List.{List, [], ◌∷◌, ◌++◌}
use Prim.Native.Nat.{ℕ, suc, ◌≤◌, ◌-◌}
use native.Mathlib.Omega.{arith}
use Rattle.std.proofs.Math.Dec.{eqb}
use Rattle.std.proofs.Math.ListN.{length}
use Rattle.std.proofs.Math.Seq.{take_at}
use Rattle.rules.specs.declared.Table.{Table}
use Rattle.rules.specs.declared.Marking.{Marking}
use Rattle.rules.specs.Counting.{times}
use Rattle.rules.specs.Numbers.{done}
use Rattle.rules.specs.Holds.{most_events, record_of}
use Rattle.rules.specs.Effect.{effect}
use Rattle.rules.specs.Time.{time}
use Rattle.rules.specs.Guard.{needed, order, goes_ahead, taken, taken_all, executed_of, caused, guarded, guarded_tick}
use Rattle.rules.specs.Remedy.{effects}
use Rattle.rules.specs.Calls.{listed}
use Rattle.rules.proofs.Laws.Tests.{decide}
use Rattle.rules.proofs.Laws.Order.{order_length}

-- one event is taken
module _ (t : Table) (m : Marking) (e : ℕ) where
  -- what goes ahead is included, and what does not is excluded
  pub ahead_included : goes_ahead t m e ≡ true → (record_of m e).included ≡ true
  ahead_included i = i

  pub behind_excluded : goes_ahead t m e ≡ false → (record_of m e).included ≡ false
  behind_excluded i = i

  -- executed if it goes ahead, else skipped
  pub taken_in : goes_ahead t m e ≡ true → taken t m e ≡ effect t m e
  unfolding taken
  taken_in i = rw i

  pub taken_out : goes_ahead t m e ≡ false → taken t m e ≡ m
  unfolding taken
  taken_out i = rw i

module _ (t : Table) where
  -- taking one list and then another
  pub taken_append : (m : Marking) (a b : List ℕ) → taken_all t m (a ++ b) ≡ taken_all t (taken_all t m a) b
  unfolding taken_all
  taken_append m [] b = refl
  taken_append m (e ∷ a) b = taken_append (taken t m e) a b

  -- taking a list is executing those of it that are executed
  pub taken_effects : (m : Marking) (l : List ℕ) → taken_all t m l ≡ effects t m (executed_of t m l)
  unfolding taken_all executed_of effects
  taken_effects m [] = refl
  taken_effects m (e ∷ l) = go (decide (goes_ahead t m e)) (taken_effects (taken t m e) l)
    where
      go : (goes_ahead t m e ≡ true) ⊎ (goes_ahead t m e ≡ false)
          → taken_all t (taken t m e) l ≡ effects t (taken t m e) (executed_of t (taken t m e) l)
          → taken_all t (taken t m e) l ≡ effects t m (cond (goes_ahead t m e) (e ∷ executed_of t (taken t m e) l) (executed_of t (taken t m e) l))
      go (inl i) ih = rw i (ih ∙ ap (λ (n : Marking). effects t n (executed_of t (taken t m e) l)) (taken_in t m e i))
      go (inr i) ih = rw i (ih ∙ ap (λ (n : Marking). effects t n (executed_of t (taken t m e) l)) (taken_out t m e i))

  -- and none is executed more often than it is taken
  pub executed_fewer : (x : ℕ) (m : Marking) (l : List ℕ) → times x (executed_of t m l) ≤ times x l
  unfolding times executed_of
  executed_fewer x m [] = omega arith
  executed_fewer x m (e ∷ l) = go (goes_ahead t m e) (eqb x e) refl (executed_of t (taken t m e) l) (executed_fewer x (taken t m e) l)
    where
      go : (i c : Bool) → eqb x e ≡ c → (r : List ℕ) → times x r ≤ times x l → times x (cond i (e ∷ r) r) ≤ cond (eqb x e) (suc (times x l)) (times x l)
      go true true q r h = rw q (omega arith)
      go true false q r h = rw q h
      go false true q r h = rw q (omega arith)
      go false false q r h = rw q h

  -- nor more of them
  pub executed_length : (m : Marking) (l : List ℕ) → length (executed_of t m l) ≤ length l
  unfolding executed_of
  executed_length m [] = omega arith
  executed_length m (e ∷ l) = go (goes_ahead t m e) (executed_length (taken t m e) l)
    where
      go : (i : Bool) → length (executed_of t (taken t m e) l) ≤ length l
          → length (cond i (e ∷ executed_of t (taken t m e) l) (executed_of t (taken t m e) l)) ≤ suc (length l)
      go true h = omega arith
      go false h = omega arith

  pub caused_length : (m : Marking) → length (caused t m) ≤ t.events
  unfolding caused
  caused_length m = omega (arith, executed_length m (order t m), order_length t t.events (needed t m))

  -- the guarded tick: the effects of the caused events, then time
  pub guarded_is : (m : Marking) → guarded t m ≡ time (effects t m (caused t m))
  unfolding guarded caused
  guarded_is m = ap time (taken_effects m (order t m))

  -- what its answer lists: the caused events, and none in a refusal
  pub tick_listed : (m : Marking) → listed (guarded_tick t m) ≡ done (guarded_tick t m).number (caused t m) []
  unfolding guarded_tick
  tick_listed m =
      let events = done (guarded_tick t m).number (caused t m) [] in
      take_at events (replicate (most_events - length events) 0) (length events) refl

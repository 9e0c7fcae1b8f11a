-- A history leads where the trace of its steps leads; the history of two traces, one behind the other, is both. Assumes nothing.
use Rattle.std.specs.Prelude.{◌≡◌, Bool, ℕ, eqb, leb}
use Rattle.std.proofs.Math.Path.{refl, ap, sym}
use Rattle.std.proofs.Common.{◌∙◌}
use Rattle.std.proofs.Math.Bool.{true, false, cond}
use mathlib.Core.List.{List, [], ◌∷◌, ◌++◌, append_assoc}
use Rattle.rules.specs.declared.Table.{Table}
use Rattle.rules.specs.declared.Marking.{Marking}
use Rattle.rules.specs.declared.Step.{Step}
use Rattle.rules.specs.Effect.{effect}
use Rattle.rules.specs.Time.{time}
use Rattle.rules.specs.Guard.{caused, guarded}
use Rattle.rules.specs.Remedy.{effects}
use Rattle.rules.specs.Trace.{last_happen_kind, plain_tick_kind, step_number, step_done, stepped, end_of}
use Rattle.rules.specs.History.{Act, executes, passes, after, then_pass, acts_of, history_of}
use Rattle.rules.proofs.Laws.Taken.{guarded_is}

module _ (t : Table) where
  pub after_join : (m : Marking) (a b : List Act) → after t m (a ++ b) ≡ after t (after t m a) b
  unfolding after
  after_join m [] b = refl
  after_join m (executes e ∷ a) b = after_join (effect t m e) a b
  after_join m (passes ∷ a) b = after_join (time m) a b

  after_then_pass : (m : Marking) (l : List ℕ) → after t m (then_pass l) ≡ time (effects t m l)
  unfolding after then_pass effects
  after_then_pass m [] = refl
  after_then_pass m (e ∷ l) = after_then_pass (effect t m e) l

  pub after_guarded : (m : Marking) → after t m (then_pass (caused t m)) ≡ guarded t m
  after_guarded m = after_then_pass m (caused t m) ∙ sym (guarded_is t m)

  pub after_acts : (m : Marking) (s : Step) → after t m (acts_of t m s) ≡ stepped t m s
  unfolding acts_of stepped step_done after
  after_acts m s = go (eqb (step_number t m s) 0) (leb s.kind last_happen_kind) (eqb s.kind plain_tick_kind)
    where
      go : (d a p : Bool) → after t m (cond d (cond a (executes s.event ∷ []) (cond p (passes ∷ []) (then_pass (caused t m)))) [])
          ≡ cond d (cond a (effect t m s.event) (cond p (time m) (guarded t m))) m
      go true true p = refl
      go true false true = refl
      go true false false = after_guarded m
      go false a p = refl

  pub after_history : (m : Marking) (steps : List Step) → after t m (history_of t m steps) ≡ end_of t m steps
  unfolding history_of end_of after
  after_history m [] = refl
  after_history m (s ∷ rest) =
      after_join m (acts_of t m s) (history_of t (stepped t m s) rest)
      ∙ ap (λ (n : Marking). after t n (history_of t (stepped t m s) rest)) (after_acts m s)
      ∙ after_history (stepped t m s) rest

  -- one trace, and then another
  pub history_append : (m : Marking) (xs ys : List Step) → history_of t m (xs ++ ys) ≡ history_of t m xs ++ history_of t (end_of t m xs) ys
  unfolding history_of end_of
  history_append m [] ys = refl
  history_append m (s ∷ xs) ys =
      ap (λ (l : List Act). acts_of t m s ++ l) (history_append (stepped t m s) xs ys)
      ∙ sym (append_assoc (acts_of t m s) (history_of t (stepped t m s) xs) _)

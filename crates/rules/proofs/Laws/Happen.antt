-- An event that happens: what is granted was enabled, and an existing event that is not enabled is refused with 10. Assumes nothing.
use Rattle.std.specs.Prelude.{◌≡◌, true, false, not, ℕ, ◌<◌}
use borrow.Author.Tests.{lt-ltb}
use Rattle.rules.specs.declared.Table.{Table}
use Rattle.rules.specs.declared.Marking.{Marking}
use Rattle.rules.specs.Judge.{judged, event_number}
use Rattle.rules.specs.Enabled.{is_enabled}
use Rattle.rules.specs.Happen.{happen_number, happen}
use Rattle.rules.proofs.Laws.Tests.{not_false}
use Rattle.rules.proofs.Laws.Numbers.{if_done, both_done}

module _ (t : Table) (m : Marking) (e : ℕ) where
  -- by a step, which judges nothing, and by a call
  pub happen_granted : happen_number t m e ≡ 0 → is_enabled t m e ≡ true
  unfolding happen_number
  happen_granted h = not_false (is_enabled t m e) (if_done 9 (not (is_enabled t m e)) (both_done (event_number t e) _ h).1)

  pub call_granted : (happen t m e).number ≡ 0 → is_enabled t m e ≡ true
  unfolding happen
  call_granted h = happen_granted (both_done (judged t m) (happen_number t m e) h).1

  pub happen_held : judged t m ≡ 0 → e < t.events → is_enabled t m e ≡ false → (happen t m e).number ≡ 10
  unfolding happen happen_number
  happen_held fine exists held = rw (fine, lt-ltb e t.events exists, held)

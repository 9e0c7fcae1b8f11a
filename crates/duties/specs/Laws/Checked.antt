-- An answer of the check, and what it says for the guarded tick. Assumes nothing.
use Rattle.std.specs.Prelude.{◌≡◌, ℕ}
use Rattle.std.proofs.Common.{subst}
use borrow.Author.Tests.{ne_eqb}
use Rattle.rules.specs.declared.Table.{Table}
use Rattle.rules.specs.declared.Marking.{Marking}
use Rattle.rules.specs.CheckAnswer.{Refused, Accepts, Rejects}
use Rattle.rules.specs.Judge.{judged}
use Rattle.rules.specs.Check.{reason, verdict, check}
use Rattle.rules.specs.Guard.{caused, guarded, guarded_tick}
use Rattle.rules.proofs.Laws.Check.{Said, verdict_said}
use Rattle.duties.specs.Taking.{answered, nothing}

module _ (t : Table) (m : Marking) where
  -- what the guarded tick is where the judge refuses ..
  pub check_refused : (number : ℕ) → number ≡ judged t m → (number ≡ 0 → ⊥) → check t m ≡ Refused number
  unfolding check
  check_refused number e h = rw (← e, ne_eqb number 0 h)

  pub tick_unjudged : {number : ℕ} → number ≡ judged t m → (number ≡ 0 → ⊥) → nothing number 0 0 m ≡ guarded_tick t m
  unfolding guarded_tick
  tick_unjudged {number} e h = rw (check_refused number e h, ne_eqb number 0 h)

  -- .. and by the verdict
  module _ (judged_done : judged t m ≡ 0) where
    pub check_judged : check t m ≡ verdict t m
    unfolding check
    check_judged = rw judged_done

    pub tick_refused : (number : ℕ) → verdict t m ≡ Refused number → nothing number 0 0 m ≡ guarded_tick t m
    tick_refused number e = absurd (subst Said e (verdict_said t m))

    pub tick_rejected : (reason place : ℕ) → verdict t m ≡ Rejects reason place → nothing 12 reason place m ≡ guarded_tick t m
    unfolding guarded_tick
    tick_rejected reason place e = rw (check_judged, e)

    pub tick_accepted : verdict t m ≡ Accepts → answered 0 0 0 (caused t m) (guarded t m) ≡ guarded_tick t m
    unfolding guarded_tick
    tick_accepted e = rw (check_judged, e)

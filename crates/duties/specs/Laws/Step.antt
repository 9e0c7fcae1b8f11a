-- A step over words, by how it ended: an event that happens, a tick, or no step. Assumes nothing.
use Rattle.std.specs.Prelude.{◌≡◌, Bool, true, false, ◌&&◌, ◌||◌, List, ℕ, ◌≤◌, eqb}
use Rattle.std.proofs.Math.Path.{refl, ap, subst}
use Rattle.std.proofs.Common.{◌∙◌, sym, arith, ne_eqb}
use Rattle.std.proofs.Math.Bool.{and-true}
use Rattle.rules.specs.declared.Table.{Table}
use Rattle.rules.specs.declared.Record.{Record}
use Rattle.rules.specs.declared.Marking.{Marking}
use Rattle.rules.specs.Answers.{MarkingAnswer}
use Rattle.rules.specs.declared.Step.{Step}
use Rattle.rules.specs.Numbers.{done, check_number}
use Rattle.rules.specs.Effect.{effect}
use Rattle.rules.specs.Happen.{happen_number}
use Rattle.rules.specs.Time.{time, plain_tick_number}
use Rattle.rules.specs.Check.{verdict}
use Rattle.rules.specs.Guard.{guarded}
use Rattle.rules.specs.Trace.{wrong_step}
use Rattle.rules.specs.Shapes.Turned.{turned}
use Rattle.rules.proofs.Laws.Trace.{turned_happen, turned_tick, turned_guarded, turned_wrong}
use Rattle.acts.specs.declared.marking_words.MarkingWords.{MarkingWords}
use Rattle.acts.specs.Words.{StandFor}
use Rattle.duties.specs.Step.{Turned}
-- to be removed: callers go by this name
pub use Rattle.duties.specs.Laws.Sets.{stands_of}

-- a step that is refused, or is no guarded tick, shows nothing of the check
none_shown : (accepted guarding : Bool) → accepted ≡ (accepted || guarding && false)
none_shown true guarding = refl
none_shown false true = refl
none_shown false false = refl

-- what a tick answers, which has no event
module _ (t : Table) (m : Marking) (step : Step) (none : step.event ≡ 0) (number : ℕ) where
  plain_is : step.kind ≡ 2 → number ≡ plain_tick_number m
      → record { number = number; marking = done number (time m) m } ≡ turned t m step.kind step.event
  plain_is kind told =
      ap (λ (n : ℕ). record { number = n; marking = done n (time m) m }) told ∙ turned_tick t m step.event none
      ∙ ap (λ (k : ℕ). turned t m k step.event) (sym kind)

  guarded_is : step.kind ≡ 3 → number ≡ check_number (verdict t m)
      → record { number = number; marking = done number (guarded t m) m } ≡ turned t m step.kind step.event
  guarded_is kind told =
      ap (λ (n : ℕ). record { number = n; marking = done n (guarded t m) m }) told ∙ turned_guarded t m step.event none
      ∙ ap (λ (k : ℕ). turned t m k step.event) (sym kind)

module _ {t : Table} {tail : List Record} {m : Marking} {accepted : Bool} (step : Step) {after : MarkingWords} where
  -- the words stand for the marking of the step's answer
  turned_by : (a : MarkingAnswer) → a ≡ turned t m step.kind step.event → (now : Bool) → now ≡ (accepted || eqb step.kind 3 && eqb a.number 0)
      → StandFor t.events tail after a.marking → Turned t tail m accepted step a.number now after
  turned_by a e now shown stands = record {
    number = ap (λ (k : MarkingAnswer). k.number) e;
    stands = subst (λ (k : MarkingAnswer). StandFor t.events tail after k.marking) e stands;
    accepts = shown;
  }

  -- an event that happens
  pub happen_turned : step.kind ≤ 1 → {number : ℕ} → number ≡ happen_number t m step.event
      → StandFor t.events tail after (done number (effect t m step.event) m) → Turned t tail m accepted step number accepted after
  happen_turned few {number} told stands =
      turned_by (record { number = number; marking = done number (effect t m step.event) m })
      (ap (λ (n : ℕ). record { number = n; marking = done n (effect t m step.event) m }) told ∙ turned_happen t m step.event step.kind few)
      accepted (rw (ne_eqb step.kind 3 (λ z. omega (arith, z, few))) (none_shown accepted true)) stands

  -- no step
  pub wrong_turned : wrong_step step.kind step.event ≡ true → StandFor t.events tail after m → Turned t tail m accepted step 15 accepted after
  wrong_turned wrong stands =
      turned_by (record { number = 15; marking = m }) (turned_wrong t m step.event step.kind wrong) accepted
      (none_shown accepted (eqb step.kind 3)) stands

  -- a tick
  module _ (none : step.event ≡ 0) {number : ℕ} where
    pub plain_turned : step.kind ≡ 2 → number ≡ plain_tick_number m → (number ≡ 0 → ⊥)
        → StandFor t.events tail after (done number (time m) m) → Turned t tail m accepted step number accepted after
    plain_turned kind told refused stands =
        turned_by (record { number = number; marking = done number (time m) m }) (plain_is t m step none number kind told) accepted
        (rw (ne_eqb number 0 refused) (none_shown accepted (eqb step.kind 3))) stands

    pub guarded_turned : step.kind ≡ 3 → number ≡ check_number (verdict t m) → (number ≡ 0 → ⊥)
        → StandFor t.events tail after (done number (guarded t m) m) → Turned t tail m accepted step number accepted after
    guarded_turned kind told refused stands =
        turned_by (record { number = number; marking = done number (guarded t m) m }) (guarded_is t m step none number kind told) accepted
        (rw (ne_eqb number 0 refused) (none_shown accepted (eqb step.kind 3))) stands

  -- one that is done, which shows that the check accepts if it is guarded
  module _ (none : step.event ≡ 0) (now : Bool) (shown : now ≡ (accepted || eqb step.kind 3)) where
    pub plain_done : step.kind ≡ 2 → 0 ≡ plain_tick_number m → StandFor t.events tail after (time m) → Turned t tail m accepted step 0 now after
    plain_done kind told stands =
        turned_by (record { number = 0; marking = time m }) (plain_is t m step none 0 kind told) now (rw (and-true (eqb step.kind 3)) shown) stands

    pub guarded_done : step.kind ≡ 3 → 0 ≡ check_number (verdict t m) → StandFor t.events tail after (guarded t m)
        → Turned t tail m accepted step 0 now after
    guarded_done kind told stands =
        turned_by (record { number = 0; marking = guarded t m }) (guarded_is t m step none 0 kind told) now (rw (and-true (eqb step.kind 3)) shown) stands

-- An answer that is an enum, told in numbers, is what its rule says in numbers. Assumes nothing.
use Rattle.std.specs.Prelude.{◌≡◌, Bool, ◌||◌, ltb, ℤ, ◌-ℤ◌}
use Rattle.std.proofs.Math.Path.{refl}
use Rattle.std.proofs.Common.{ap, ◌∙◌, arith, ne_eqb}
use Rattle.std.proofs.Math.Bool.{true, false, not, cond}
use Prim.Native.Nat.{ℕ, zero, suc}
use Rattle.std.proofs.Math.Dec.{eqb}
use Rattle.std.proofs.Math.IntN.{pos}
use Rattle.rules.specs.declared.Table.{Table}
use Rattle.rules.specs.declared.Marking.{Marking}
use Rattle.rules.specs.Rest.{Never as never, By as by}
use Rattle.rules.specs.MarginAnswer.{MarginAnswer, Refused as refusedMargin, NotACondition, Ignored}
use Rattle.rules.specs.HoldUpAnswer.{HoldUpAnswer, Refused as refusedHoldUp, Enabled, EnabledUnless, Excluded, Blocked}
use Rattle.rules.specs.CheckAnswer.{CheckAnswer, Refused as refusedCheck, Accepts, Rejects}
use Rattle.rules.specs.Counting.{some, lowest}
use Rattle.rules.specs.Numbers.{◌if◌, ◌else◌, done, margin_in_numbers, hold_up_in_numbers, check_in_numbers}
use Rattle.rules.specs.Holds.{is_condition, relation_of, record_of}
use Rattle.rules.specs.Judge.{judged, event_number}
use Rattle.rules.specs.Enabled.{blocks}
use Rattle.rules.specs.Margin.{rest_of, outright, margin_of, margin, told_margin}
use Rattle.rules.specs.HoldUp.{would_block, hold_up_of, hold_up, told_hold_up}
use Rattle.rules.specs.Closure.{closure}
use Rattle.rules.specs.Check.{unreportable, uncausable, waiting, on_cycle, reopening, reviving, verdict, check, reason_of, place_of, told_check}
use Rattle.rules.proofs.Laws.Counting.{lowest_some}

not_done : (number : ℕ) → eqb (suc number) 0 ≡ false
not_done number = ne_eqb (suc number) 0 (λ e. omega (arith, e))

module _ (t : Table) (m : Marking) where
  -- each by its tests
  pub margin_in_numbers_lem : (k : ℕ) → margin_in_numbers (margin t m k) ≡ told_margin t m k
  unfolding margin rest_of margin_of told_margin
  margin_in_numbers_lem k =
      let relation = relation_of t k in
      let right = record_of m relation.right in
      go (judged t m else 8 if not (ltb k t.count)) (is_condition relation) right.included right.happened (pos right.age -ℤ pos relation.time)
    where
      go : (number : ℕ) (condition included happened : Bool) (ticks : ℤ)
          → margin_in_numbers
          (let rest = cond (not happened) never (by ticks) in
          done number (cond (not condition) NotACondition (cond (not included) (Ignored rest) (outright rest))) (refusedMargin number))
          ≡ (let ignored : ℕ = cond (not happened) 1 4 in
          let kind : ℕ = done number (cond (not condition) 0 (cond (not included) ignored (cond (not happened) 2 3))) 0 in
          record { number = number; kind = kind; ticks = cond (eqb kind 3 || eqb kind 4) ticks (pos 0) })
      go (suc number) condition included happened ticks = rw (not_done number)
      go zero false included happened ticks = refl
      go zero true false false ticks = refl
      go zero true false true ticks = refl
      go zero true true false ticks = refl
      go zero true true true ticks = refl

  pub hold_up_in_numbers_lem : (e : ℕ) → hold_up_in_numbers (hold_up t m e) ≡ told_hold_up t m e
  unfolding hold_up hold_up_of told_hold_up
  hold_up_in_numbers_lem e =
      rw (lowest_some (blocks t m e) t.count, lowest_some (would_block t m e) t.count)
      (go (judged t m else event_number t e) (record_of m e).included
      (some t.count (blocks t m e)) (some t.count (would_block t m e))
      (lowest t.count (blocks t m e)) (lowest t.count (would_block t m e)))
    where
      go : (number : ℕ) (included blocked would : Bool) (first unless : ℕ)
          → hold_up_in_numbers
          (done number (cond (not included) Excluded (cond blocked (Blocked first) (cond would (EnabledUnless unless) Enabled))) (refusedHoldUp number))
          ≡ (let enabled : ℕ = cond would 3 0 in
          let kind : ℕ = done number (cond (not included) 1 (cond blocked 2 enabled)) 0 in
          record { number = number; kind = kind; relation = cond (eqb kind 2) first (cond (eqb kind 3) unless 0) })
      go (suc number) included blocked would first unless = rw (not_done number)
      go zero false blocked would first unless = refl
      go zero true true would first unless = refl
      go zero true false true first unless = refl
      go zero true false false first unless = refl

  pub check_in_numbers_lem : check_in_numbers (check t m) ≡ told_check t m
  unfolding check verdict reason_of place_of told_check
  check_in_numbers_lem =
      let closed = closure t m in
      rw (
        lowest_some (unreportable t m) t.events,
        lowest_some (uncausable t closed) t.events,
        lowest_some (waiting t closed) t.count,
        lowest_some (on_cycle t closed) t.events,
        lowest_some (reopening t closed) t.count,
        lowest_some (reviving t closed) t.count,
      )
      (go (judged t m)
      (some t.events (unreportable t m)) (some t.events (uncausable t closed)) (some t.count (waiting t closed))
      (some t.events (on_cycle t closed)) (some t.count (reopening t closed)) (some t.count (reviving t closed))
      (lowest t.events (unreportable t m)) (lowest t.events (uncausable t closed)) (lowest t.count (waiting t closed))
      (lowest t.events (on_cycle t closed)) (lowest t.count (reopening t closed)) (lowest t.count (reviving t closed)))
    where
      go : (number : ℕ) (one two three four five six : Bool) (p₁ p₂ p₃ p₄ p₅ p₆ : ℕ)
          → check_in_numbers
          (done number
          (cond one (Rejects 1 p₁) (cond two (Rejects 2 p₂) (cond three (Rejects 3 p₃)
          (cond four (Rejects 4 p₄) (cond five (Rejects 5 p₅) (cond six (Rejects 6 p₆) Accepts))))))
          (refusedCheck number))
          ≡ (let reason : ℕ = done number (1 if one else 2 if two else 3 if three else 4 if four else 5 if five else 6 if six) 0 in
          record {
            number = number else 12 if not (eqb reason 0);
            reason = reason;
            place = cond (eqb reason 1) p₁ (cond (eqb reason 2) p₂ (cond (eqb reason 3) p₃
                (cond (eqb reason 4) p₄ (cond (eqb reason 5) p₅ (cond (eqb reason 6) p₆ 0)))));
          })
      go (suc number) one two three four five six p₁ p₂ p₃ p₄ p₅ p₆ = rw (not_done number)
      go zero true two three four five six p₁ p₂ p₃ p₄ p₅ p₆ = refl
      go zero false true three four five six p₁ p₂ p₃ p₄ p₅ p₆ = refl
      go zero false false true four five six p₁ p₂ p₃ p₄ p₅ p₆ = refl
      go zero false false false true five six p₁ p₂ p₃ p₄ p₅ p₆ = refl
      go zero false false false false true six p₁ p₂ p₃ p₄ p₅ p₆ = refl
      go zero false false false false false true p₁ p₂ p₃ p₄ p₅ p₆ = refl
      go zero false false false false false false p₁ p₂ p₃ p₄ p₅ p₆ = refl

  -- so an answer that is the rule's has the rule's numbers
  pub margin_whole : (k : ℕ) {answer : MarginAnswer} → answer ≡ margin t m k → (answer ≡ margin t m k) × (margin_in_numbers answer ≡ told_margin t m k)
  margin_whole k e = (e, ap margin_in_numbers e ∙ margin_in_numbers_lem k)

  pub hold_up_whole : (e : ℕ) {answer : HoldUpAnswer} → answer ≡ hold_up t m e → (answer ≡ hold_up t m e) × (hold_up_in_numbers answer ≡ told_hold_up t m e)
  hold_up_whole e is = (is, ap hold_up_in_numbers is ∙ hold_up_in_numbers_lem e)

  pub check_whole : {answer : CheckAnswer} → answer ≡ check t m → (answer ≡ check t m) × (check_in_numbers answer ≡ told_check t m)
  check_whole e = (e, ap check_in_numbers e ∙ check_in_numbers_lem)

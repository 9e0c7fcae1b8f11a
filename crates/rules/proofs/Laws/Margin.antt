-- Age minus time: within the limit, what it says below, at and above zero; that a condition stops its left event exactly while its margin is
-- below zero or never; and that the rest of an ignored margin is the margin where the right event is included. Assumes nothing.
use Rattle.std.specs.Prelude.{◌≡◌, refl, Bool, true, false, not, cond, ℕ, zero, suc, ◌-◌, ◌≤◌, ◌<◌, leb, ltb, ℤ, pos, negsuc, ◌-ℤ◌}
use Rattle.std.proofs.Common.{◌∙◌, ap, sym, zero-le, add-zero, arith, lt-ltb, le-ltb, le-leb, ltb-true, ltb-false}
use Rattle.std.proofs.Math.Nat.{sub-zero}
use Rattle.std.proofs.lemmas.Bool.{lt-leb}
use Rattle.std.proofs.Math.IntN.{sub_ℕ}
use Rattle.std.specs.Int.Signed.{mag}
use Rattle.rules.specs.declared.Relation.{Relation}
use Rattle.rules.specs.declared.Table.{Table}
use Rattle.rules.specs.declared.Record.{Record}
use Rattle.rules.specs.declared.Marking.{Marking}
use Rattle.rules.specs.Rest.{Rest, Never as never, By as by}
use Rattle.rules.specs.MarginAnswer.{MarginAnswer, Refused, NotACondition, Ignored, Never, By}
use Rattle.rules.specs.Numbers.{◌if◌, ◌else◌, done}
use Rattle.rules.specs.Holds.{is_condition, relation_of, record_of}
use Rattle.rules.specs.Judge.{judged}
use Rattle.rules.specs.Enabled.{stops}
use Rattle.rules.specs.Including.{as_included, including}
use Rattle.rules.specs.Margin.{rest_of, outright, margin_of, margin}
use Rattle.rules.proofs.Laws.Tests.{clash, not_false, or_false}
use Rattle.rules.proofs.Laws.Numbers.{if_done, both_done, by_number}
use Rattle.rules.proofs.Laws.Judge.{good}
use Rattle.rules.proofs.Laws.Granted.{right_told}
use Rattle.rules.proofs.Laws.Including.{including_own, including_judged}

by_sign : (a b : ℕ) → pos a -ℤ pos b ≡ sub_ℕ a b
by_sign a zero = simp (le-ltb a 0 zero-le, sub-zero, add-zero)
by_sign a (suc b) = refl

-- below zero: so many ticks are still to pass
pub minus_waits : (a b : ℕ) → a < b → pos a -ℤ pos b ≡ negsuc (b - suc a)
minus_waits a b h = by_sign a b ∙ simp (lt-ltb a b h)

-- zero or above: satisfied since so many ticks
pub minus_holds : (a b : ℕ) → b ≤ a → pos a -ℤ pos b ≡ pos (a - b)
minus_holds a b h = by_sign a b ∙ simp (le-ltb a b h)

-- of two numbers up to n, between minus n and n
pub minus_range : (n a b : ℕ) → a ≤ n → b ≤ n → mag (pos a -ℤ pos b) ≤ n
minus_range n a b ha hb = rw by_sign (go (ltb a b) refl)
  where
    go : (waits : Bool) → ltb a b ≡ waits → mag (cond waits (negsuc (b - suc a)) (pos (a - b))) ≤ n
    go true e = omega (arith, ltb-true a b e)
    go false e = omega arith

-- the condition still waits: never, or below zero
abbrev pub below_zero : ℤ → Bool
below_zero (pos n) = false
below_zero (negsuc n) = true

abbrev pub waits : MarginAnswer → Bool
waits (Refused number) = false
waits NotACondition = false
waits (Ignored rest) = false
waits Never = true
waits (By ticks) = below_zero ticks

late : (a b : ℕ) → not (leb b a) ≡ below_zero (pos a -ℤ pos b)
late a b = go (ltb a b) refl
  where
    go : (t : Bool) → ltb a b ≡ t → not (leb b a) ≡ below_zero (pos a -ℤ pos b)
    go true e = rw (lt-leb b a (ltb-true a b e), minus_waits a b (ltb-true a b e))
    go false e = rw (le-leb b a (ltb-false a b e), minus_holds a b (ltb-false a b e))

pub margin_stops : (k : Relation) (r : Record) → k.kind ≡ 1 → stops k r ≡ waits (margin_of k r)
unfolding stops rest_of margin_of
margin_stops k r condition = rw condition (go r.included r.happened refl refl)
  where
    go : (i h : Bool) → r.included ≡ i → r.happened ≡ h
        → stops (record { kind = 1; left = k.left; right = k.right; bounded = k.bounded; time = k.time }) r
        ≡ waits (margin_of (record { kind = 1; left = k.left; right = k.right; bounded = k.bounded; time = k.time }) r)
    go false h p q = rw p
    go true false p q = rw (p, q)
    go true true p q = rw (p, q) (or_false (not (leb k.time r.age)) ∙ late r.age k.time)

-- what is made of an ignored margin's rest, and what stands for it in any other answer
module _ {A : Type 0} where
  abbrev of_ignored : (Rest → A) → A → MarginAnswer → A
  of_ignored f none (Refused number) = none
  of_ignored f none NotACondition = none
  of_ignored f none (Ignored rest) = f rest
  of_ignored f none Never = none
  of_ignored f none (By ticks) = none

abbrev is_ignored : MarginAnswer → Bool
is_ignored = of_ignored (λ rest. true) false

not_outright : (rest : Rest) → is_ignored (outright rest) ≡ false
not_outright never = refl
not_outright (by ticks) = refl

-- of one condition: its answer goes by the record alone
as_included_lem : (k : Relation) (r : Record) {rest : Rest} → margin_of k r ≡ Ignored rest → margin_of k (as_included r) ≡ outright rest
unfolding rest_of margin_of
as_included_lem k r {rest} = go (is_condition k) r.included
  where
    go : (condition included : Bool)
        → cond (not condition) NotACondition (cond (not included) (Ignored (rest_of k r)) (outright (rest_of k r))) ≡ Ignored rest
        → cond (not condition) NotACondition (outright (rest_of k r)) ≡ outright rest
    go false included is = absurd (clash (ap is_ignored is) refl)
    go true true is = absurd (clash (ap is_ignored is) (not_outright (rest_of k r)))
    go true false is = ap (of_ignored outright Never) is

pub ignored_as_included : (t : Table) (m : Marking) (k : ℕ) {rest : Rest} → margin t m k ≡ Ignored rest
    → margin t (including (relation_of t k).right m) k ≡ outright rest
unfolding margin
ignored_as_included t m k {rest} is = by_number number granted (λ refused. absurd (clash (ap is_ignored is) (rw refused)))
  where
    number : ℕ
    number = judged t m else 8 if not (ltb k t.count)

    right : ℕ
    right = (relation_of t k).right

    granted : number ≡ 0 → margin t (including right m) k ≡ outright rest
    granted z =
        let p = both_done (judged t m) (8 if not (ltb k t.count)) z in
        let used = ltb-true k t.count (not_false (ltb k t.count) (if_done 7 (not (ltb k t.count)) p.1)) in
        let shown : margin_of (relation_of t k) (record_of m right) ≡ Ignored rest =
        sym (ap (λ (n : ℕ). done n (margin_of (relation_of t k) (record_of m right)) (Refused n)) z) ∙ is in
        rw (including_judged right m t p.0, p.1, including_own right m (right_told (good t m p.0).table_good k used))
        (as_included_lem (relation_of t k) (record_of m right) shown)

-- The due events of the marking that words stand for: of the events that may be due, those whose deadline is over. Assumes nothing.
use Rattle.std.specs.Prelude.{◌≡◌, refl, Bool, true, false, ◌&&◌, ◌||◌, cond, List, ℕ, ◌<◌, ◌+◌, ◌-◌, ◌^◌, eqb, leb, ltb, get_or}
use Rattle.std.proofs.Common.{◌∙◌, ap, sym, arith}
use Rattle.std.proofs.Math.Bool.{or_assoc, and_comm}
use borrow.Author.Tests.{ltb-true, lt-ltb, leb-true, leb-false, eq-eqb, ne_eqb}
use Rattle.rules.specs.declared.Record.{Record}
use Rattle.rules.specs.declared.Marking.{Marking}
use Rattle.rules.specs.EventSet.{has}
use Rattle.rules.specs.Holds.{record_of}
use Rattle.rules.specs.Time.{is_due, due_set, plain_tick_number}
use Rattle.rules.proofs.Laws.Tests.{both}
use Rattle.rules.proofs.Laws.Time.{none_due_yet, some_due_still}
use Rattle.acts.specs.Stands.{ticks_at, record_in, Stands, may_be_due}
use Rattle.acts.specs.Laws.Stands.{stands_events, stands_at}
use Rattle.acts.specs.Laws.Members.{set_by_test}
use Rattle.acts.specs.Laws.Each.{each_out}

-- the tick at which the deadline of x is over has come
abbrev pub is_over : ℕ → List ℕ → ℕ → Bool
is_over clock columns x = leb (get_or columns (64 + x) 0) clock

-- no tick is left exactly where it has come
none_left : (until clock : ℕ) → eqb (until - clock) 0 ≡ leb until clock
none_left until clock = go (leb until clock) refl
  where
    go : (b : Bool) → leb until clock ≡ b → eqb (until - clock) 0 ≡ b
    go true e = eq-eqb (until - clock) 0 (omega (arith, leb-true until clock e))
    go false e = ne_eqb (until - clock) 0 (λ z. omega (arith, leb-false until clock e, z))

due_by : (included pending bounded over : Bool) (ticks : ℕ) → eqb ticks 0 ≡ over
    → (((included && pending) && bounded) && true && over) ≡ (included && (pending && (bounded && eqb (cond bounded ticks 0) 0)))
due_by true true true over ticks e = sym e
due_by true true false over ticks e = refl
due_by true false bounded over ticks e = refl
due_by false pending bounded over ticks e = refl

module _ (n : ℕ) (tail : List Record) (clock : ℕ) (sets columns : List ℕ) (m : Marking) (stands : Stands n tail clock sets columns m) where
  pub due_at : (x : ℕ) → x < n → (may_be_due sets n x && is_over clock columns x) ≡ is_due (record_of m x)
  unfolding is_due record_in
  due_at x b =
      rw (stands_at n tail clock sets columns m stands x b, lt-ltb x n b)
      (due_by (has (get_or sets 1 0) x) (has (get_or sets 2 0) x) (has (get_or sets 3 0) x) (is_over clock columns x) (ticks_at clock columns x) (none_left _ clock))

  pub due_is : (r : ℕ) → ((x : ℕ) → has r x ≡ (may_be_due sets n x && is_over clock columns x)) → r ≡ due_set m
  unfolding due_set
  due_is r made =
      rw (stands_events n tail clock sets columns m stands)
      (set_by_test n r (λ e. is_due (record_of m e))
      (λ x h. let may = (both (may_be_due sets n x) (is_over clock columns x) (sym (made x) ∙ h)).0 in
      ltb-true x n (both ((has (get_or sets 1 0) x && has (get_or sets 2 0) x) && has (get_or sets 3 0) x) (ltb x n) may).1)
      (λ x b. made x ∙ due_at x b))

-- a plain tick's number, by the due events
pub tick_goes : (m : Marking) → due_set m ≡ 0 → plain_tick_number m ≡ 0
unfolding plain_tick_number
tick_goes m none = rw (none_due_yet m none)

pub tick_held : (m : Marking) → (due_set m ≡ 0 → ⊥) → plain_tick_number m ≡ 11
unfolding plain_tick_number
tick_held m some = rw (some_due_still m some)

-- of the events of a set those that pass a test: one event more is looked at, and put in if it passes
pub chosen_if : (f : ℕ → Bool) (found left e r x : ℕ) {whole : Bool} → has left e ≡ true → has r x ≡ (has found x || (f e && eqb e x))
    → (has found x || (has left x && f x)) ≡ whole → (has r x || (has (left - 2 ^ e) x && f x)) ≡ whole
chosen_if f found left e r x {whole} inside made old =
    rw made
    (or_assoc (has found x) (f e && eqb e x) (has (left - 2 ^ e) x && f x)
    ∙ ap (λ (b : Bool). has found x || (b || (has (left - 2 ^ e) x && f x))) (and_comm (f e) (eqb e x))
    ∙ ap (λ (b : Bool). has found x || b) (sym (each_out left e inside f x)) ∙ old)

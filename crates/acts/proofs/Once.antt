-- What the inner promises that speak by members or by places leave open: nothing. Two words with the same members are one; two markings that
-- the same words stand for are one; the rows of a table are one. Assumes nothing.
use mathlib.Core.Path.{◌≡◌, ◌∙◌, ap, sym}
use mathlib.Core.Bool.{Bool}
use mathlib.Core.List.{List}
use Prim.Native.Nat.{ℕ, ◌<◌, ◌+◌, ◌*◌, ◌/◌, ◌%◌}
use native.Mathlib.Decide.{dec_lt, ℕ_discrete}
use native.Mathlib.Omega.{arith}
use lib.ListN.{get_or}
use lib.Seq.{ext_get_or}
use Rattle.rules.specs.declared.Table.{Table}
use Rattle.rules.specs.declared.Record.{Record}
use Rattle.rules.specs.declared.Marking.{Marking}
use Rattle.rules.specs.EventSet.{has}
use Rattle.rules.proofs.Laws.Turns.{same_word}
use Rattle.acts.specs.Derived.{Derived, Linked, Unlinked}
use Rattle.acts.specs.Stands.{Stands}

-- `without`, `first`, `with_if`, `bounded_pending`, `included_after`, `pending_after`, `kept_dates`, `bounded_after`
pub members_once : (f : ℕ → Bool) {r s : ℕ} → ((x : ℕ) → has r x ≡ f x) → ((x : ℕ) → has s x ≡ f x) → r ≡ s
members_once f {r} {s} p q = same_word r s (λ x. p x ∙ sym (q x))

-- of `MarkingWords`: `of`, `marking`, `execute`, `pass_tick`, `happen`
pub stands_once : {n clock : ℕ} {tail : List Record} {sets columns : List ℕ} {m k : Marking} → Stands n tail clock sets columns m
    → Stands n tail clock sets columns k → m ≡ k
stands_once p q = p.is ∙ sym q.is

-- rows whose words have the same members, and whose chains begin alike
module _ (t : Table) (n : ℕ) (rows others : List ℕ) (derived : Derived t n rows) (derived2 : Derived t n others) where
  rows_same : ((e : ℕ) → e < 64 → get_or rows (10 * e + 8) 0 ≡ get_or others (10 * e + 8) 0)
      → ((e : ℕ) → e < 64 → get_or rows (10 * e + 9) 0 ≡ get_or others (10 * e + 9) 0) → rows ≡ others
  rows_same responses waits = ext_get_or 0 rows others (derived.size ∙ sym derived2.size) (λ i b. here i (omega (arith, b, derived.size)))
    where
      at : (i : ℕ) → 10 * (i / 10) + i % 10 ≡ i
      at i = omega arith

      place : (i s : ℕ) → i % 10 ≡ s → get_or rows (10 * (i / 10) + s) 0 ≡ get_or others (10 * (i / 10) + s) 0 → get_or rows i 0 ≡ get_or others i 0
      place i s e h =
          let p : 10 * (i / 10) + s ≡ i = omega (arith, at i, e) in
          ap (λ (k : ℕ). get_or rows k 0) (sym p) ∙ h ∙ ap (λ (k : ℕ). get_or others k 0) p

      here : (i : ℕ) → i < 640 → get_or rows i 0 ≡ get_or others i 0
      here i b = by_sort (dec_lt (i % 10) 8) (ℕ_discrete (i % 10) 8)
        where
          e : ℕ
          e = i / 10

          small : i / 10 < 64
          small = omega arith

          by_sort : Dec (i % 10 < 8) → Dec (i % 10 ≡ 8) → get_or rows i 0 ≡ get_or others i 0
          by_sort (yes l) d =
              place i (i % 10) (omega arith) (same_word _ _ (λ x. derived.row (i / 10) small (i % 10) l x ∙ sym (derived2.row (i / 10) small (i % 10) l x)))
          by_sort (no l) (yes q) = place i 8 q (responses (i / 10) small)
          by_sort (no l) (no q) = place i 9 (omega arith) (waits (i / 10) small)

  -- `TableWords::of`, `OwnRow::of`
  pub rows_once : (links more : List ℕ) → Linked t n rows links → Linked t n others more → rows ≡ others
  rows_once links more linked linked2 =
      rows_same (λ e b. linked.responses e b ∙ sym (linked2.responses e b)) (λ e b. linked.waits e b ∙ sym (linked2.waits e b))

  -- `Rows::of`
  pub rows_alone_once : Unlinked rows → Unlinked others → rows ≡ others
  rows_alone_once none none2 = rows_same (λ e b. (none e b).0 ∙ sym (none2 e b).0) (λ e b. (none e b).1 ∙ sym (none2 e b).1)

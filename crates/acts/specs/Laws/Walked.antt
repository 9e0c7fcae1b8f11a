-- A walk over a chain of links, from the last of e's relations of a sort back: which relation is met, and what its link says. Assumes nothing.
use Rattle.std.specs.Prelude.{◌≡◌, Bool, cond, List, ltb, get_or}
use Rattle.std.proofs.Math.Path.{refl}
use Rattle.std.proofs.Common.{◌∙◌, arith}
use Rattle.std.proofs.Math.Bool.{true, false}
use Prim.Native.Nat.{ℕ, zero, suc, ◌<◌, ◌≤◌, ◌-◌, ◌/◌, ◌%◌}
use Rattle.rules.specs.declared.Table.{Table}
use Rattle.rules.specs.Holds.{relation_of}
use Rattle.rules.specs.Shapes.Good.{GoodTable}
use Rattle.acts.specs.Derived.{chain_of, of_sort, last_of, Own}
use Rattle.acts.specs.Laws.Linked.{last_le, last_of_sort, chain_says}

module _ (t : Table) (s e : ℕ) where
  -- what no relation of another sort or event changes is the same at the last of e's of that sort
  pub last_kept : {A : Type 0} (f : ℕ → A) (n : ℕ) → ((k : ℕ) → k < n → of_sort t s e k ≡ false → f (suc k) ≡ f k) → f n ≡ f (last_of t s e n)
  unfolding last_of
  last_kept f zero kept = refl
  last_kept f (suc n) kept = go (of_sort t s e n) refl (last_kept f n (λ k b. kept k (omega arith)))
    where
      go : (b : Bool) → of_sort t s e n ≡ b → f n ≡ f (last_of t s e n) → f (suc n) ≡ f (cond b (suc n) (last_of t s e n))
      go true h below = refl
      go false h below = kept n (omega arith) h ∙ below

  -- n is next: 0 for none, else a relation's number and 1 more
  pub record Next (n : ℕ) : Type 0 where
    pub small : n ≤ t.count
    pub own : (k : ℕ) → n ≡ suc k → of_sort t s e k ≡ true

  pub next_last : (n : ℕ) → n ≤ t.count → Next (last_of t s e n)
  next_last n b = record { small = omega (arith, last_le t s e n); own = last_of_sort t s e n }

  -- which relation it is, and what its link says
  pub record LinkMet (n link : ℕ) : Type 0 where
    pub place : ℕ
    pub number : n ≡ suc place
    pub exists : place < t.count
    pub own : of_sort t s e place ≡ true
    pub next : link % 512 ≡ last_of t s e place
    pub right : link / 512 % 64 ≡ (relation_of t place).right
    pub time : link / 32768 % 1073741824 ≡ (relation_of t place).time

  -- the numbers of the links fall
  pub met_less : {n link : ℕ} → LinkMet n link → link % 512 < n
  met_less met = omega (arith, met.number, met.next, last_le t s e met.place)

  module _ (good : GoodTable t) (rows : List ℕ) (at : ℕ) (links : List ℕ) (own : Own t t.count e rows at links) (chained : ltb (chain_of s) 10 ≡ true) where
    pub met_next : (n : ℕ) → Next n → (n ≡ 0 → ⊥) → LinkMet n (get_or links ((n - 1) % 256) 0)
    met_next zero next more = absurd (more refl)
    met_next (suc k) next more =
        let exists : k < t.count = omega (arith, next.small) in
        let here : (suc k - 1) % 256 ≡ k = omega (arith, good.few_relations) in
        let says = chain_says t s e rows at links k good own exists chained (next.own k refl) in
        rw here (record {
          place = k;
          number = refl;
          exists = exists;
          own = next.own k refl;
          next = says.next;
          right = says.right;
          time = says.time;
        })

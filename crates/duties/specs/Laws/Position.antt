-- The first relation that passes a test, as it is found among those that count. Assumes nothing.
use Rattle.std.specs.Prelude.{◌≡◌, Bool, true, false, cond, List, ℕ, Option, Some, None, ◌<◌, ltb, length}
use Rattle.std.proofs.Math.Path.{refl, ap}
use Rattle.std.proofs.Common.{◌∙◌, arith, ⊎_elim, ltb-false, length-take, get_or-take}
use Rattle.std.proofs.Math.ListN.{take, get_or}
use Rattle.std.specs.List.{position_or_len}
use Rattle.std.specs.Option.{unwrap_or}
use Rattle.std.proofs.lemmas.List.{get_or_default}
use Rattle.std.proofs.lemmas.List.Sums.{position_or_len_is}
use Rattle.rules.specs.declared.Relation.{Relation}
use Rattle.rules.specs.declared.Table.{Table}
use Rattle.rules.specs.Counting.{lowest}
use Rattle.rules.specs.Holds.{empty_relation, relation_of}
use Rattle.rules.specs.Shapes.Good.{GoodTable}
use Rattle.acts.specs.Laws.Derived.{left_small, right_small}
use Rattle.rules.proofs.Laws.Counting.{lowest_cases, lowest_le, lowest_before}

-- each that counts has a small kind and small ends
pub counting_small : (t : Table) → GoodTable t → (i : ℕ) → i < length (take t.count t.relations) → (k : Relation)
    → k ≡ get_or (take t.count t.relations) i k → (k.kind < 64) × (k.left < 64) × (k.right < 64)
counting_small t good i b k is =
    let there : i < t.count = omega (arith, b, length-take t.count t.relations) in
    let same = is ∙ get_or_default (take t.count t.relations) i k empty_relation b ∙ get_or-take t.count t.relations i empty_relation there in
    let kind : (relation_of t i).kind < 64 = omega (arith, (good.relations_good i there).kind_small) in
    rw same (kind, left_small t good i there, right_small t good i there)

module _ (t : Table) (whole : length (take t.count t.relations) ≡ t.count) (test : Relation → Bool) where
  abbrev counting : List Relation
  counting = take t.count t.relations

  abbrev f : ℕ → Bool
  f k = test (relation_of t k)

  at : (k : ℕ) → k < t.count → test (get_or counting k empty_relation) ≡ f k
  at k b = ap test (get_or-take t.count t.relations k empty_relation b)

  place_is : position_or_len test counting ≡ lowest t.count f
  place_is =
      position_or_len_is test counting (lowest t.count f) empty_relation (omega (arith, whole, lowest_le f t.count))
      (λ k l. at k (omega (arith, l, lowest_le f t.count)) ∙ lowest_before f t.count k l)
      (λ l. ⊎_elim (λ d. at (lowest t.count f) d.small ∙ d.holds) (λ d. absurd (omega (arith, l, whole, d.whole))) (lowest_cases f t.count))

  pub first_placed : (r : Option ℕ) → r ≡ cond (ltb (position_or_len test counting) (length counting)) (Some (position_or_len test counting)) None
      → unwrap_or r t.count ≡ lowest t.count f
  first_placed r is = ap (λ (o : Option ℕ). unwrap_or o t.count) is ∙ rw (place_is, whole) (go (ltb (lowest t.count f) t.count) refl)
    where
      go : (b : Bool) → ltb (lowest t.count f) t.count ≡ b → unwrap_or (cond b (Some (lowest t.count f)) None) t.count ≡ lowest t.count f
      go true e = refl
      go false e = omega (arith, ltb-false _ _ e, lowest_le f t.count)

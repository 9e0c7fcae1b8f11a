-- A relation stops by its right event's record, included or taken for it; the two searches are those of the rules, and the one begins where
-- the other ends. Assumes nothing.
use Rattle.std.specs.Prelude.{◌≡◌, Option, Some, None, Bool, true, false, not, ◌&&◌, ◌||◌, ℕ, ◌<◌, ◌≤◌, eqb, leb, ltb}
use Rattle.std.proofs.Math.Path.{refl}
use Rattle.std.proofs.Common.{◌∙◌, sym, arith, le-ltb, lt-ltb}
use Rattle.std.specs.Option.{is_some}
use Rattle.rules.specs.declared.Relation.{Relation}
use Rattle.rules.specs.declared.Table.{Table}
use Rattle.rules.specs.declared.Record.{Record}
use Rattle.rules.specs.declared.Marking.{Marking}
use Rattle.rules.specs.Counting.{some, lowest}
use Rattle.rules.specs.Holds.{is_condition, is_milestone, relation_of, record_of}
use Rattle.rules.specs.Enabled.{stops, blocks}
use Rattle.rules.specs.HoldUp.{would_block}
use Rattle.rules.proofs.Laws.Tests.{clash, denied, both, join}
use Rattle.rules.proofs.Laws.Counting.{lowest_none, lowest_before, lowest_some}
use Rattle.rules.proofs.Laws.HoldUp.{stops_included}
use Rattle.acts.specs.Blocking.{as_if, blocks_as, FoundLowest}

pub stops_as : (returned : Bool) (k : Relation) (r : Record)
    → stops k (as_if returned r)
    ≡ ((returned || r.included) && (is_condition k && not (r.happened && leb k.time r.age) || is_milestone k && r.pending))
unfolding stops
stops_as true k r = refl
stops_as false k r = refl

module _ (t : Table) (m : Marking) (e : ℕ) where
  pub lowest_now : lowest t.count (blocks_as false t m e) ≡ lowest t.count (blocks t m e)
  unfolding blocks_as blocks
  lowest_now = refl

  pub lowest_returned : lowest t.count (blocks_as true t m e) ≡ lowest t.count (would_block t m e)
  unfolding blocks_as would_block
  lowest_returned = refl

  -- what blocks would block, so before the first that would none does
  blocks_would : (k : ℕ) → blocks_as false t m e k ≡ true → blocks_as true t m e k ≡ true
  unfolding blocks_as stops
  blocks_would k h =
      let p = both (eqb (relation_of t k).left e) _ h in
      let included = (both (record_of m (relation_of t k).right).included _ p.1).0 in
      join p.0 (stops_included (relation_of t k) (record_of m (relation_of t k).right) included ∙ p.1)

  module _ {unless : ℕ} (is : unless ≡ lowest t.count (blocks_as true t m e)) where
    before : (k : ℕ) → k < unless → blocks_as false t m e k ≡ false
    before k b = denied (blocks_as false t m e k) (λ h. clash (blocks_would k h) (lowest_before (blocks_as true t m e) t.count k (rw is at b)))

    pub none_before : lowest unless (blocks_as false t m e) ≡ unless
    none_before = lowest_none (blocks_as false t m e) unless before

    pub none_blocks : t.count ≤ unless → ltb (lowest t.count (blocks t m e)) t.count ≡ false
    none_blocks past =
        let none : lowest t.count (blocks_as false t m e) ≡ t.count =
        lowest_none (blocks_as false t m e) t.count (λ k b. before k (omega (arith, b, past))) in
        rw (← lowest_now, none) (le-ltb t.count t.count (omega arith))

-- the lowest is found where there is one
pub found_some : (n : ℕ) (f : ℕ → Bool) (found : Option ℕ) → FoundLowest n f found → is_some found ≡ some n f
found_some n f None is = sym (le-ltb (lowest n f) n (omega (arith, is))) ∙ lowest_some f n
found_some n f (Some i) is = sym (lt-ltb (lowest n f) n (omega (arith, is.0, is.1))) ∙ lowest_some f n

-- what is not a test's result is the test's denial
pub flipped : (a b : Bool) → b ≡ not a → a ≡ not b
flipped true b h = rw h
flipped false b h = rw h

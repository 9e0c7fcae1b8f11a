-- Which relations hold their left event back, of those that stop it or inhibit it. Assumes nothing.
use Rattle.std.specs.Prelude.{◌≡◌, true, ◌&&◌, ◌⊎◌}
use Rattle.std.proofs.Common.{ap, arith, le-leb}
use Rattle.std.proofs.Math.Bool.{false, not}
use Rattle.std.proofs.Math.Logic.{⊎_elim, inl, inr}
use Rattle.std.proofs.Math.Dec.{leb}
use Rattle.rules.specs.declared.Relation.{Relation}
use Rattle.rules.specs.declared.Record.{Record}
use Rattle.rules.specs.Holds.{is_condition, is_milestone}
use Rattle.rules.specs.Enabled.{stops}
use Rattle.rules.specs.Closure.{inhibits, followed}
use Rattle.rules.specs.Guard.{holds_back}
use Rattle.rules.proofs.Laws.Tests.{clash, denied, not_true, both, join, either, or_left, or_right}

-- A relation that stops its left holds it back, if it asks for no time; what holds back inhibits, and is followed if it asks for no time.
module _ (k : Relation) (r : Record) where
  pub stops_holds_back : (is_condition k ≡ true → k.time ≡ 0) → stops k r ≡ true → holds_back k r ≡ true
  unfolding stops holds_back
  stops_holds_back timeless h =
      let p = both r.included _ h in
      join p.0
      (⊎_elim
      (λ c. let q = both (is_condition k) (not (r.happened && leb k.time r.age)) c in
      or_left (is_condition k && not r.happened) _ (join q.0 (ap not (not_yet (timeless q.0) (not_true _ q.1)))))
      (λ c. or_right (is_condition k && not r.happened) _ c)
      (either (is_condition k && not (r.happened && leb k.time r.age)) (is_milestone k && r.pending) p.1))
    where
      not_yet : k.time ≡ 0 → r.happened && leb k.time r.age ≡ false → r.happened ≡ false
      not_yet z q = denied r.happened (λ y. clash (join y (le-leb k.time r.age (omega (arith, z)))) q)

  -- the parts of holding back: included, and a condition that never happened or a milestone that is pending
  pub holds_back_parts : holds_back k r ≡ true
      → (r.included ≡ true) × (((is_condition k ≡ true) × (r.happened ≡ false)) ⊎ ((is_milestone k ≡ true) × (r.pending ≡ true)))
  unfolding holds_back
  holds_back_parts h =
      let p = both r.included _ h in (
        p.0,
        ⊎_elim
            (λ c. let q = both (is_condition k) (not r.happened) c in inl (q.0, not_true r.happened q.1))
            (λ c. inr (both (is_milestone k) r.pending c))
            (either (is_condition k && not r.happened) (is_milestone k && r.pending) p.1),
      )

  pub holds_back_condition : r.included ≡ true → is_condition k ≡ true → r.happened ≡ false → holds_back k r ≡ true
  unfolding holds_back
  holds_back_condition i c n = join i (or_left (is_condition k && not r.happened) _ (join c (ap not n)))

  pub holds_back_milestone : r.included ≡ true → is_milestone k ≡ true → r.pending ≡ true → holds_back k r ≡ true
  unfolding holds_back
  holds_back_milestone i c p = join i (or_right (is_condition k && not r.happened) _ (join c p))

  -- today each inhibiting relation is followed; of a relation that asks for no time nothing more is used
  pub holds_back_followed : (is_condition k ≡ true → k.time ≡ 0) → holds_back k r ≡ true → followed k ≡ true
  holds_back_followed timeless h =
      ⊎_elim
      (λ c. or_left (is_condition k) (is_milestone k) c.0)
      (λ c. or_right (is_condition k) (is_milestone k) c.0)
      (holds_back_parts h).1

  -- what stops its left event inhibits it
  pub stops_inhibits : stops k r ≡ true → inhibits k ≡ true
  unfolding stops
  stops_inhibits h =
      ⊎_elim
      (λ c. or_left (is_condition k) (is_milestone k) (both (is_condition k) _ c).0)
      (λ c. or_right (is_condition k) (is_milestone k) (both (is_milestone k) r.pending c).0)
      (either (is_condition k && not (r.happened && leb k.time r.age)) (is_milestone k && r.pending) (both r.included _ h).1)

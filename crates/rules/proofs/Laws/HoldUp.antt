-- Enabled and hold-up agree: an event is enabled exactly when its hold-up says so, with a relation named or without. A relation that an enabled
-- event's hold-up names has an excluded right event, and blocks in the marking where that is included; no lower one would; and with none named
-- the event stays enabled with any one event included. Assumes nothing.
use Rattle.std.specs.Prelude.{◌≡◌, refl, Bool, ◌&&◌, cond, ℕ, ◌<◌, eqb}
use Rattle.std.proofs.Common.{◌∙◌, ap, subst, ⊎_elim, arith, eqb-true, eq-eqb}
use Rattle.std.proofs.Math.Path.{sym}
use Rattle.std.proofs.Math.Bool.{true, false, not}
use Rattle.rules.specs.declared.Relation.{Relation}
use Rattle.rules.specs.declared.Table.{Table}
use Rattle.rules.specs.declared.Record.{Record}
use Rattle.rules.specs.declared.Marking.{Marking}
use Rattle.rules.specs.HoldUpAnswer.{HoldUpAnswer, Refused, Enabled, EnabledUnless, Excluded, Blocked}
use Rattle.rules.specs.Counting.{some, lowest}
use Rattle.rules.specs.Numbers.{◌else◌, done, hold_up_number, hold_up_in_numbers}
use Rattle.rules.specs.Holds.{most_events, relation_of, record_of}
use Rattle.rules.specs.Judge.{judged, event_number}
use Rattle.rules.specs.Enabled.{stops, blocks, is_enabled, enabled_answer}
use Rattle.rules.specs.Including.{as_included, including}
use Rattle.rules.specs.HoldUp.{would_block, hold_up_of, hold_up}
use Rattle.rules.specs.Shapes.Good.{Good}
use Rattle.rules.proofs.Laws.Tests.{clash, denied, both, join, not_true}
use Rattle.rules.proofs.Laws.Counting.{some_not, some_false, lowest_some, lowest_cases, Found}
use Rattle.rules.proofs.Laws.Numbers.{by_number}
use Rattle.rules.proofs.Laws.Granted.{event_told, right_told}
use Rattle.rules.proofs.Laws.Including.{including_own, including_other, including_keeps}

-- the event is enabled, by its hold-up
abbrev pub says_enabled : HoldUpAnswer → Bool
says_enabled (Refused number) = false
says_enabled Enabled = true
says_enabled (EnabledUnless relation) = true
says_enabled Excluded = false
says_enabled (Blocked relation) = false

-- a record that is included is as it would be
pub stops_included : (k : Relation) (r : Record) → r.included ≡ true → stops k (as_included r) ≡ stops k r
unfolding stops
stops_included k r h = rw h

module _ (t : Table) (m : Marking) (e : ℕ) where
  pub enabled_included : is_enabled t m e ≡ true → (record_of m e).included ≡ true
  unfolding is_enabled
  enabled_included h = (both (record_of m e).included (not (some t.count (blocks t m e))) h).0

  unblocked : is_enabled t m e ≡ true → some t.count (blocks t m e) ≡ false
  unfolding is_enabled
  unblocked h = not_true (some t.count (blocks t m e)) (both (record_of m e).included (not (some t.count (blocks t m e))) h).1

  -- the hold-up, by the tests that enabled makes
  by_tests : hold_up_of t m e
      ≡ cond (not (record_of m e).included) Excluded
      (cond (some t.count (blocks t m e)) (Blocked (lowest t.count (blocks t m e)))
      (cond (some t.count (would_block t m e)) (EnabledUnless (lowest t.count (would_block t m e))) Enabled))
  unfolding hold_up_of
  by_tests = rw (lowest_some (blocks t m e) t.count, lowest_some (would_block t m e) t.count)

  agrees : (hold_up_number (hold_up_of t m e) ≡ 0) × (says_enabled (hold_up_of t m e) ≡ is_enabled t m e)
  unfolding is_enabled
  agrees =
      rw by_tests
      (go (record_of m e).included (some t.count (blocks t m e)) (some t.count (would_block t m e))
      (lowest t.count (blocks t m e)) (lowest t.count (would_block t m e)))
    where
      go : (included blocked would : Bool) (first unless : ℕ)
          → (hold_up_number (cond (not included) Excluded (cond blocked (Blocked first) (cond would (EnabledUnless unless) Enabled))) ≡ 0)
          × (says_enabled (cond (not included) Excluded (cond blocked (Blocked first) (cond would (EnabledUnless unless) Enabled))) ≡ included && not blocked)
      go false blocked would first unless = (refl, refl)
      go true true would first unless = (refl, refl)
      go true false true first unless = (refl, refl)
      go true false false first unless = (refl, refl)

  -- the two calls: with the same number, and enabled where the hold-up says so
  pub hold_up_agrees : (hold_up_number (hold_up t m e) ≡ (enabled_answer t m e).number) × (says_enabled (hold_up t m e) ≡ (enabled_answer t m e).enabled)
  unfolding hold_up enabled_answer
  hold_up_agrees = by_number (judged t m else event_number t e) (λ z. rw z agrees) (λ r. rw r (refl, refl))

-- An enabled event.
module _ (t : Table) (m : Marking) (e : ℕ) {answer : HoldUpAnswer} (is : hold_up t m e ≡ answer) (says : says_enabled answer ≡ true) where
  granted : (judged t m else event_number t e) ≡ 0
  unfolding hold_up
  granted = by_number (judged t m else event_number t e) (λ z. z) (λ r. absurd (clash (ap says_enabled is ∙ says) (rw r)))

  good_told : Good t m
  good_told = (event_told t m e granted).0

  exists : e < most_events
  exists = (event_told t m e granted).1

  shown : hold_up_of t m e ≡ answer
  unfolding hold_up
  shown = sym (ap (λ (n : ℕ). done n (hold_up_of t m e) (Refused n)) granted) ∙ is

  enabled : is_enabled t m e ≡ true
  enabled = sym (agrees t m e).1 ∙ ap says_enabled shown ∙ says

  by_would : answer ≡ cond (some t.count (would_block t m e)) (EnabledUnless (lowest t.count (would_block t m e))) Enabled
  by_would = sym shown ∙ by_tests t m e ∙ rw (enabled_included t m e enabled, unblocked t m e enabled)

  -- a relation in the marking where its right event is included
  would : (k : ℕ) → k < t.count → blocks t (including (relation_of t k).right m) e k ≡ would_block t m e k
  unfolding blocks would_block
  would k used = rw (including_own (relation_of t k).right m (right_told good_told.table_good k used))

  -- and where any other is, or where it is included as it is
  otherwise : (x k : ℕ) → k < t.count → ((relation_of t k).right ≡ x → ⊥) → blocks t (including x m) e k ≡ blocks t m e k
  unfolding blocks
  otherwise x k used other = rw (including_other x m (relation_of t k).right (right_told good_told.table_good k used) other)

  as_it_is : (k : ℕ) → (record_of m (relation_of t k).right).included ≡ true → would_block t m e k ≡ blocks t m e k
  unfolding blocks would_block
  as_it_is k included = rw (stops_included (relation_of t k) (record_of m (relation_of t k).right) included)

  by_none : (k : ℕ) → k < t.count → blocks t m e k ≡ false
  by_none k used = some_not (blocks t m e) t.count k (unblocked t m e enabled) used

-- what the answer of an enabled event tells of the search for a relation that would block
named : (would : Bool) (unless k : ℕ) → EnabledUnless k ≡ cond would (EnabledUnless unless) Enabled → (would ≡ true) × (unless ≡ k)
named true unless k is = (refl, sym (ap (λ a. (hold_up_in_numbers a).relation) is))
named false unless k is = absurd (omega (arith, ap (λ a. (hold_up_in_numbers a).kind) is))

unnamed : (would : Bool) (unless : ℕ) → Enabled ≡ cond would (EnabledUnless unless) Enabled → would ≡ false
unnamed true unless is = absurd (omega (arith, ap (λ a. (hold_up_in_numbers a).kind) is))
unnamed false unless is = refl

-- a relation that an enabled event's hold-up names
pub record Named (t : Table) (m : Marking) (e k : ℕ) : Type 0 where
  pub exists : k < t.count
  pub excluded : (record_of m (relation_of t k).right).included ≡ false
  pub blocks_then : blocks t (including (relation_of t k).right m) e k ≡ true
  pub no_lower : (j : ℕ) → j < k → blocks t (including (relation_of t j).right m) e j ≡ false

pub unless_blocks : (t : Table) (m : Marking) (e k : ℕ) → hold_up t m e ≡ EnabledUnless k → Named t m e k
unless_blocks t m e k is = record {
  exists = found.small;
  excluded = denied _ (λ included. clash (sym (as_it_is t m e is refl k included) ∙ found.holds) (by_none t m e is refl k found.small));
  blocks_then = would t m e is refl k found.small ∙ found.holds;
  no_lower = λ j below. would t m e is refl j (omega (arith, below, found.small)) ∙ found.first j below;
}
  where
    told : (some t.count (would_block t m e) ≡ true) × (lowest t.count (would_block t m e) ≡ k)
    told = named _ _ k (by_would t m e is refl)

    found : Found (would_block t m e) t.count k
    found = subst (Found (would_block t m e) t.count) told.1
        (⊎_elim (λ f. f) (λ none. absurd (clash told.0 (some_false (would_block t m e) t.count none.nowhere)))
        (lowest_cases (would_block t m e) t.count))

pub unless_none : (t : Table) (m : Marking) (e : ℕ) → hold_up t m e ≡ Enabled → (x : ℕ) → is_enabled t (including x m) e ≡ true
unfolding is_enabled
unless_none t m e is x =
    join (including_keeps x m e (exists t m e is refl) (enabled_included t m e (enabled t m e is refl)))
    (ap not (some_false (blocks t (including x m) e) t.count none))
  where
    none : (k : ℕ) → k < t.count → blocks t (including x m) e k ≡ false
    none k used = go (eqb (relation_of t k).right x) refl
      where
        go : (own : Bool) → eqb (relation_of t k).right x ≡ own → blocks t (including x m) e k ≡ false
        go true own =
            subst (λ x. blocks t (including x m) e k ≡ false) (eqb-true (relation_of t k).right x own)
            (would t m e is refl k used
            ∙ some_not (would_block t m e) t.count k (unnamed _ _ (by_would t m e is refl)) used)
        go false other = otherwise t m e is refl x k used (λ p. clash (eq-eqb (relation_of t k).right x p) other) ∙ by_none t m e is refl k used

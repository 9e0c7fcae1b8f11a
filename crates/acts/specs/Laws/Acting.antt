-- Enabled, by the row of the event and its conditions with a time: an inhibitor that holds back is missing or pending, and one of a condition
-- with a time may be too young besides. Assumes nothing.
use Rattle.std.specs.Prelude.{◌≡◌, Bool, ◌&&◌, cond, List, ℕ, ◌<◌, ◌+◌, ◌^◌, eqb, leb, get_or}
use Rattle.std.proofs.Math.Path.{refl, ap, ap₂, sym}
use Rattle.std.proofs.Common.{◌∙◌, arith}
use Rattle.std.proofs.Math.Bool.{true, false, not, ◌||◌, or-true, not-not}
use Rattle.std.proofs.Math.Dec.{ltb}
use Rattle.std.specs.Int.Bits.{bit_or, bit_and}
use borrow.Author.Tests.{eqb-true, eq-eqb, ltb-true, ltb-false, lt-ltb, lt-leb, le-leb}
use Rattle.rules.specs.declared.Record.{Record}
use Rattle.rules.specs.declared.Relation.{Relation}
use Rattle.rules.specs.declared.Table.{Table}
use Rattle.rules.specs.declared.Marking.{Marking}
use Rattle.rules.specs.Counting.{some}
use Rattle.rules.specs.EventSet.{has}
use Rattle.rules.specs.Holds.{is_condition, is_milestone, relation_of}
use Rattle.rules.specs.Effect.{leads}
use Rattle.rules.specs.Enabled.{stops, blocks, is_enabled}
use Rattle.rules.proofs.Laws.Tests.{clash, both, join, denied, same_test, and_false, or_false}
use Rattle.rules.proofs.Laws.Counting.{some_where, some_at, some_same, some_false}
use Rattle.rules.proofs.Laws.EventSet.{has_zero, has_small}
use Rattle.rules.proofs.Laws.Time.{set_empty}
use Rattle.rules.proofs.Laws.Bitwise.{has_or, has_and}
use Rattle.rules.specs.Shapes.Good.{GoodTable}
use Rattle.acts.specs.Derived.{sort_of, sorted, of_sort, Own}
use Rattle.acts.specs.Stands.{age_at, record_in, Stands}
use Rattle.acts.specs.Acting.{holds_back_at, held_back, young_by, waits_for}
use Rattle.acts.specs.Laws.Members.{set_by_test}
use Rattle.acts.specs.Laws.Derived.{right_small}
use Rattle.acts.specs.Laws.Sorts.{sorts}
use Rattle.acts.specs.Laws.Sorted.{some_either, conditions_are, milestones_are}
use Rattle.acts.specs.Laws.Stands.{stands_at}

-- The word of those that hold back is empty where none does.
module _ (rows : List ℕ) (at : ℕ) (sets : List ℕ) (missing : ℕ)
    (misses : (x : ℕ) → has missing x ≡ (has (get_or sets 1 0) x && not (has (get_or sets 0 0) x)))
  where
    abbrev held_word_lem : ℕ
    held_word_lem =
        bit_or (bit_and (bit_or (get_or rows (at + 0) 0) (get_or rows (at + 1) 0)) missing)
        (bit_and (get_or rows (at + 2) 0) (bit_and (get_or sets 1 0) (get_or sets 2 0)))

    held_has : (x : ℕ) → has held_word_lem x ≡ holds_back_at rows at sets x
    held_has x = simp (has_or, has_and, misses)

    pub held_word : ((s : ℕ) → s < 3 → get_or rows (at + s) 0 < 2 ^ 64) → not (eqb held_word_lem 0) ≡ held_back rows at sets
    unfolding held_back
    held_word fits =
        ap (λ (w : ℕ). not (eqb w 0)) (set_by_test 64 held_word_lem (holds_back_at rows at sets) (λ x h. small x (sym (held_has x) ∙ h)) (λ x b. held_has x))
        ∙ ap not (set_empty (holds_back_at rows at sets) 64) ∙ not-not (some 64 (holds_back_at rows at sets))
      where
        small : (x : ℕ) → holds_back_at rows at sets x ≡ true → x < 64
        small x h = go (ltb x 64) refl
          where
            go : (b : Bool) → ltb x 64 ≡ b → x < 64
            go true e = ltb-true x 64 e
            go false e = absurd (clash h (rw (outside 0 (omega arith), outside 1 (omega arith), outside 2 (omega arith))))
              where
                outside : (s : ℕ) → s < 3 → has (get_or rows (at + s) 0) x ≡ false
                outside s b = has_small (get_or rows (at + s) 0) 64 x (fits s b) (ltb-false x 64 e)

-- e's relations that pass a test and lead to an event that passes another: by the events, and by the relations
module _ (t : Table) (e : ℕ) (f : Relation → Bool) (g : ℕ → Bool) where
  abbrev reaches : ℕ → ℕ → Bool
  reaches x k = f (relation_of t k) && leads (relation_of t k) e x

  abbrev reached : ℕ → Bool
  reached x = some t.count (reaches x) && g x

  abbrev passes : ℕ → Bool
  passes k = eqb (relation_of t k).left e && (f (relation_of t k) && g (relation_of t k).right)

  reached_some : GoodTable t → some 64 reached ≡ some t.count passes
  reached_some good = same_test (some 64 reached) (some t.count passes) there back
    where
      there : some 64 reached ≡ true → some t.count passes ≡ true
      there h =
          let event = some_where reached 64 h in
          let x = event.0 in
          let p = both (some t.count (reaches x)) (g x) event.2 in
          let by = some_where (reaches x) t.count p.0 in
          let k = relation_of t by.0 in
          let q = both (f k) (leads k e x) by.2 in
          let ends = both (eqb k.left e) (eqb k.right x) q.1 in
          some_at passes t.count by.0 by.1 (join ends.0 (join q.0 (ap g (eqb-true k.right x ends.1) ∙ p.1)))

      back : some t.count passes ≡ true → some 64 reached ≡ true
      back h =
          let by = some_where passes t.count h in
          let k = relation_of t by.0 in
          let x = k.right in
          let p = both (eqb k.left e) (f k && g x) by.2 in
          let q = both (f k) (g x) p.1 in
          let some-there = some_at (reaches x) t.count by.0 by.1 (join q.0 (join p.0 (eq-eqb x x refl))) in
          some_at reached 64 x (right_small t good by.0 by.1) (join some-there q.1)

-- One relation blocks: its right event holds back, or is too young. What has happened is old enough, or too young ..
not_old : (happened : Bool) (time age : ℕ) → (happened && leb time (cond happened age 0)) ≡ (happened && not (ltb age time))
not_old true time age = go (ltb age time) refl
  where
    go : (young : Bool) → ltb age time ≡ young → leb time age ≡ not young
    go true h = lt-leb time age (ltb-true age time h)
    go false h = le-leb time age (ltb-false age time h)
not_old false time age = refl

-- .. and what an age is below is a time
has_time : (time age : ℕ) → (ltb 0 time && ltb age time) ≡ ltb age time
has_time time age = go (ltb age time) refl
  where
    go : (young : Bool) → ltb age time ≡ young → (ltb 0 time && young) ≡ young
    go true h = rw (lt-ltb 0 time (omega (arith, ltb-true age time h)))
    go false h = and_false (ltb 0 time)

either_way : (left condition milestone included happened pending timed young : Bool) → (timed && young) ≡ young
    → (left && (included && (condition && not (happened && not young) || milestone && pending)))
    ≡ ((left && (condition && (included && not happened)) || left && (milestone && (included && pending)))
    || (((condition && timed) && left) && (included && young)))
either_way false c s i h p z y q = rw (and_false (c && z))
either_way true c s false h p z y q = rw (and_false c, and_false s, and_false ((c && z) && true))
either_way true true s true false p z y q = refl
either_way true true s true true p true true q = sym (or-true (s && p))
either_way true true s true true p false true q = absurd (clash q refl)
either_way true true s true true p z false q = rw (and_false (z && true), or_false (s && p))
either_way true false s true h p z y q = sym (or_false (s && p))

module _ (t : Table) (good : GoodTable t) (e : ℕ) (rows : List ℕ) (at : ℕ) (links : List ℕ) (own : Own t t.count e rows at links)
    (clock : ℕ) (sets columns : List ℕ)
  where
    abbrev included : ℕ
    included = get_or sets 1 0

    abbrev is_missing : ℕ → Bool
    is_missing x = has included x && not (has (get_or sets 0 0) x)

    abbrev is_awaited : ℕ → Bool
    is_awaited x = has included x && has (get_or sets 2 0) x

    -- relation k holds e back; relation k lets e wait
    abbrev holds : ℕ → Bool
    holds k = passes t e is_condition is_missing k || passes t e is_milestone is_awaited k

    abbrev waits : ℕ → Bool
    waits = waits_for t e clock included columns

    held_some : held_back rows at sets ≡ some t.count holds
    unfolding held_back
    held_some =
        some_same (holds_back_at rows at sets) _ 64
        (λ x b. ap₂ (λ (condition milestone : Bool). condition && is_missing x || milestone && is_awaited x)
        (ap₂ ◌||◌ (own.row 0 (omega arith) x) (own.row 1 (omega arith) x) ∙ conditions_are t e x good)
        (own.row 2 (omega arith) x ∙ milestones_are t e x good))
        ∙ sym (some_either _ _ 64)
        ∙ ap₂ ◌||◌ (reached_some t e is_condition is_missing good) (reached_some t e is_milestone is_awaited good)
        ∙ some_either _ _ t.count

    -- without a condition with a time to an included event, none lets e wait
    waits_none : bit_and (get_or rows (at + 1) 0) included ≡ 0 → some t.count waits ≡ false
    waits_none empty = some_false waits t.count (λ k b. denied (waits k) (λ h. apart k b h))
      where
        apart : (k : ℕ) → k < t.count → waits k ≡ true → ⊥
        apart k b h =
            let r = relation_of t k in
            let x = r.right in
            let p = both (of_sort t 1 e k) (young_by clock included columns x r.time) h in
            let q = both (eqb (sort_of r) 1) (eqb r.left e) p.0 in
            let led = own.row 1 (omega arith) x ∙ some_at (sorted t 1 e x) t.count k b (join q.0 (join q.1 (eq-eqb x x refl))) in
            let inside = (both (has included x) _ p.1).0 in
            clash (has_and (get_or rows (at + 1) 0) included x ∙ join led inside) (ap (λ (w : ℕ). has w x) empty ∙ has_zero x)

    module _ (tail : List Record) (m : Marking) (exists : e < t.events) (stands : Stands t.events tail clock sets columns m) where
      blocks_is : (k : ℕ) → k < t.count → blocks t m e k ≡ (holds k || waits k)
      unfolding blocks stops record_in
      blocks_is k b =
          let r = relation_of t k in
          let x = r.right in
          let age = age_at clock columns x in
          rw (
            stands_at t.events tail clock sets columns m stands x (good.relations_good k b).right_exists,
            (sorts r (good.relations_good k b)).waiting,
            not_old (has (get_or sets 0 0) x) r.time age,
          )
          (either_way (eqb r.left e) (is_condition r) (is_milestone r) (has included x) (has (get_or sets 0 0) x) (has (get_or sets 2 0) x)
          (ltb 0 r.time) (ltb age r.time) (has_time r.time age))

      enabled_is : is_enabled t m e ≡ (has included e && not (held_back rows at sets || some t.count waits))
      unfolding is_enabled record_in
      enabled_is =
          rw (
            stands_at t.events tail clock sets columns m stands e exists,
            some_same (blocks t m e) (λ k. holds k || waits k) t.count blocks_is,
            ← some_either holds waits t.count,
            ← held_some,
          )

      -- by the tests of the code
      pub enabled_out : has included e ≡ false → is_enabled t m e ≡ false
      enabled_out out = enabled_is ∙ rw out

      pub enabled_held : held_back rows at sets ≡ true → is_enabled t m e ≡ false
      enabled_held held = enabled_is ∙ rw held (and_false (has included e))

      module _ (inside : has included e ≡ true) (free : held_back rows at sets ≡ false) where
        pub enabled_unless : is_enabled t m e ≡ not (some t.count waits)
        enabled_unless = enabled_is ∙ rw (inside, free)

        pub enabled_free : bit_and (get_or rows (at + 1) 0) included ≡ 0 → is_enabled t m e ≡ true
        enabled_free empty = enabled_unless ∙ ap not (waits_none empty)

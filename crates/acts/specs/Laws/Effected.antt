-- The effect of e on words: each field of each record by itself, and so the words after it stand for the marking after it. Assumes nothing.
use Rattle.std.specs.Prelude.{◌≡◌, refl, Bool, not, cond, ◌&&◌, ◌||◌, List, ℕ, ◌<◌, ◌≤◌, ◌+◌, ◌-◌, min, eqb, length, get_or, set}
use Rattle.std.proofs.Common.{◌∙◌, zero-add, arith, length-set, get_or-set_same, get_or-set_other, eq-eqb, ne_eqb, lt-ltb}
use Rattle.std.proofs.Math.Path.{ap, sym}
use Rattle.std.proofs.Math.Bool.{true, false, and-true, or-true}
use Rattle.std.proofs.Math.Decide.{ℕ_discrete}
use Rattle.std.proofs.Math.Nat.{min_comm}
use Rattle.rules.specs.declared.Table.{Table}
use Rattle.rules.specs.declared.Record.{Record}
use Rattle.rules.specs.declared.Marking.{Marking}
use Rattle.rules.specs.EventSet.{has, with_event}
use Rattle.rules.specs.Holds.{limit, count_limit}
use Rattle.rules.specs.Effect.{Deadline, none, eventually, within, is_pending, is_bounded, ticks_of, response, includes, excludes, executed, with_deadline}
use Rattle.rules.specs.Effect.{with_inclusion, responded, effect_at, effect}
use Rattle.rules.proofs.Laws.Tests.{and_false, or_false}
use Rattle.rules.proofs.Laws.EventSet.{has_zero, has_with}
use Rattle.rules.specs.Shapes.Good.{GoodTable}
use Rattle.acts.specs.Derived.{firm_set, Own}
use Rattle.acts.specs.Stands.{age_at, ticks_at, record_in, Stands}
use Rattle.acts.specs.Acting.{included_after, pending_after, kept_at, bounded_after, sooner, Responded}
use Rattle.acts.specs.Laws.Members.{has_every}
use Rattle.acts.specs.Laws.Sorted.{responses_are, bounded_are, inclusions_are, exclusions_are}
use Rattle.acts.specs.Laws.Stands.{each_stands, four_of, four}

included_by_lem : (i out put : Bool) → ((i && not out) || put) ≡ cond put true (cond out false i)
included_by_lem true true true = refl
included_by_lem true true false = refl
included_by_lem true false true = refl
included_by_lem true false false = refl
included_by_lem false out true = refl
included_by_lem false true false = refl
included_by_lem false false false = refl

-- A record by its fields: with its age and its ticks, if it has happened and if it is bounded, and its count.
module _ (age ticks count : ℕ) (h i p b : Bool) where
  abbrev before : Record
  before = record { age = cond h age 0; deadline = cond b ticks 0; happened = h; included = i; pending = p; bounded = b; count = count }

  -- after e: by whether its date is kept, by the deadline that e gives, and by whether it is e itself, is excluded, is included
  unfoldable fields_after : Bool → Deadline → Bool → Bool → Bool → Record
  fields_after kept d own out put = record {
    age = cond (h || own) (cond own 0 age) 0;
    deadline =
        cond ((((b && not own) && not (is_pending d)) || is_bounded d) || kept) (cond (is_bounded d) (cond kept (min (ticks_of d) ticks) (ticks_of d)) ticks) 0;
    happened = h || own;
    included = (i && not out) || put;
    pending = (p && not own) || is_pending d;
    bounded = (((b && not own) && not (is_pending d)) || is_bounded d) || kept;
    count = cond own (min (count + 1) count_limit) count;
  }

  abbrev included_by : Bool → Bool → Record → Record
  included_by out put r = record {
    age = r.age;
    deadline = r.deadline;
    happened = r.happened;
    included = cond put true (cond out false r.included);
    pending = r.pending;
    bounded = r.bounded;
    count = r.count;
  }

  abbrev own_before : Bool → Bool → Bool → Record
  own_before own out put = included_by out put (cond own (executed before) before)

  -- no date is kept: what is given replaces it
  replaced : (d : Deadline) (own out put : Bool) → fields_after false d own out put ≡ responded false d (own_before own out put)
  unfolding fields_after executed with_deadline
  replaced none true out put = rw (or-true h, and_false p, and_false b, included_by_lem i out put)
  replaced eventually true out put = rw (or-true h, and_false p, and_false b, included_by_lem i out put)
  replaced (within c) true out put = rw (or-true h, and_false p, and_false b, included_by_lem i out put)
  replaced none false out put = rw (or_false h, and-true p, or_false p, and-true b, and-true b, or_false b, or_false b, included_by_lem i out put)
  replaced eventually false out put = rw (or_false h, and-true p, or-true p, and-true b, and_false b, included_by_lem i out put)
  replaced (within c) false out put = rw (or_false h, and-true p, or-true p, and-true b, and_false b, included_by_lem i out put)

none_of_itself : (p b : Bool) → ((p && false) && (b && false)) ≡ false
none_of_itself p b = rw (and_false p)

-- by the choice of the table: a date is kept where it is firm, and the event, which is not e, has a deadline
fields_are : (age ticks count : ℕ) (h i p b firm : Bool) (d : Deadline) (own out put : Bool)
    → fields_after age ticks count h i p b (firm && ((p && not own) && (b && not own))) d own out put
    ≡ responded firm d (own_before age ticks count h i p b own out put)
unfolding fields_after executed with_deadline
fields_are age ticks count h i p b false d own out put = replaced age ticks count h i p b d own out put
fields_are age ticks count h i p b true d true out put =
    ap (λ (kept : Bool). fields_after age ticks count h i p b kept d true out put) (none_of_itself p b) ∙ replaced age ticks count h i p b d true out put
fields_are age ticks count h i false b true d false out put = replaced age ticks count h i false b d false out put
fields_are age ticks count h i true false true none false out put = replaced age ticks count h i true false none false out put
fields_are age ticks count h i true false true eventually false out put = replaced age ticks count h i true false eventually false out put
fields_are age ticks count h i true false true (within c) false out put = replaced age ticks count h i true false (within c) false out put
fields_are age ticks count h i true true true none false out put = rw (or_false h, included_by_lem i out put)
fields_are age ticks count h i true true true eventually false out put = rw (or_false h, included_by_lem i out put)
fields_are age ticks count h i true true true (within c) false out put = rw (or_false h, included_by_lem i out put, min_comm c ticks)

-- a firm table's every event is in the set, and of any other none
has_firm : (firm : Bool) (x : ℕ) → x < 64 → has (firm_set firm) x ≡ firm
has_firm true x b = has_every x ∙ lt-ltb x 64 b
has_firm false x b = has_zero x

-- the age and the ticks that are read of a date
aged : (own : Bool) (clock full : ℕ) → limit - (cond own (clock + limit) full - clock) ≡ cond own 0 (limit - (full - clock))
aged true clock full = omega arith
aged false clock full = refl

begun : (own : Bool) (clock full : ℕ) → full ≤ clock + limit → cond own (clock + limit) full ≤ clock + limit
begun true clock full b = omega arith
begun false clock full b = b

left_to_go : (d : Deadline) (kept : Bool) (clock until : ℕ)
    → sooner clock d kept until - clock ≡ cond (is_bounded d) (cond kept (min (ticks_of d) (until - clock)) (ticks_of d)) (until - clock)
left_to_go none kept clock until = refl
left_to_go eventually kept clock until = refl
left_to_go (within c) true clock until = omega arith
left_to_go (within c) false clock until = omega arith

same_order : (e x : ℕ) → eqb e x ≡ eqb x e
same_order e x =
    elim (ℕ_discrete e x) [
      | yes q ↦ eq-eqb e x q ∙ sym (eq-eqb x e (sym q))
      | no n ↦ ne_eqb e x n ∙ sym (ne_eqb x e (λ q. n (sym q)))
    ]

-- one place of a column, which begins at `from`
stored : (l : List ℕ) (from e x v : ℕ) (f : ℕ → ℕ) → from + e < length l → v ≡ f e
    → get_or (set l (from + e) v) (from + x) 0 ≡ cond (eqb e x) (f x) (get_or l (from + x) 0)
stored l from e x v f b is =
    elim (ℕ_discrete x e) [
      | yes q ↦ rw (q, eq-eqb e e refl) (get_or-set_same l (from + e) v 0 b ∙ is)
      | no n ↦ rw (ne_eqb e x (λ q. n (sym q))) (get_or-set_other l (from + e) (from + x) v 0 (λ q. n (omega (arith, q))))
    ]

-- the columns before the walk: e is counted, and then its age begins anew
abbrev own_columns : ℕ → ℕ → ℕ → List ℕ → List ℕ
own_columns clock e count columns = set (set columns (128 + e) count) (0 + e) (clock + limit)

module _ (t : Table) (good : GoodTable t) (e : ℕ) (rows : List ℕ) (at : ℕ) (links : List ℕ) (own : Own t t.count e rows at links) (exists : e < t.events)
    (tail : List Record) (clock : ℕ) (sets columns : List ℕ) (m : Marking) (stands : Stands t.events tail clock sets columns m)
    (firm still-pending still-bounded happened included pending kept bounded count : ℕ) (columns-after : List ℕ)
    (firmly : firm ≡ firm_set t.firm)
    (cleared : (x : ℕ) → has still-pending x ≡ (has (get_or sets 2 0) x && not (eqb e x)))
    (undated : (x : ℕ) → has still-bounded x ≡ (has (get_or sets 3 0) x && not (eqb e x)))
    (happened-is : happened ≡ with_event (get_or sets 0 0) e)
    (included-is : (x : ℕ) → has included x ≡ included_after rows at (get_or sets 1 0) x)
    (pending-is : (x : ℕ) → has pending x ≡ pending_after rows at still-pending x)
    (kept-is : (x : ℕ) → has kept x ≡ kept_at firm still-pending still-bounded x)
    (bounded-is : (x : ℕ) → has bounded x ≡ bounded_after rows at still-bounded kept x)
    (count_is : count ≡ min (get_or columns (128 + e) 0 + 1) count_limit)
    (answers : length (own_columns clock e count columns) ≡ 192 → Responded t e clock kept (own_columns clock e count columns) columns-after)
  where
    e_small : e < 64
    e_small = omega (arith, stands.few)

    abbrev with_count : List ℕ
    with_count = set columns (128 + e) count

    counted_size : length with_count ≡ 192
    counted_size = length-set columns (128 + e) count ∙ stands.three_columns

    own_size : length (own_columns clock e count columns) ≡ 192
    own_size = length-set with_count (0 + e) (clock + limit) ∙ counted_size

    answered : Responded t e clock kept (own_columns clock e count columns) columns-after
    answered = answers own_size

    abbrev sets_after : List ℕ
    sets_after = four_of sets happened included pending bounded

    ages : (x : ℕ) → x < 64 → get_or columns-after x 0 ≡ cond (eqb e x) (clock + limit) (get_or columns x 0)
    ages x b =
        answered.elsewhere x (λ y l q. omega (arith, b, q))
        ∙ ap (λ (place : ℕ). get_or (set with_count place (clock + limit)) x 0) (zero-add e)
        ∙ (simp zero-add at (stored with_count 0 e x (clock + limit) (λ y. clock + limit) (omega (arith, e_small, counted_size)) refl))
        ∙ ap (cond (eqb e x) (clock + limit)) (get_or-set_other columns (128 + e) x count 0 (λ q. omega (arith, b, q)))

    counts : (x : ℕ) → x < 64 → get_or columns-after (128 + x) 0 ≡ cond (eqb e x) (min (get_or columns (128 + x) 0 + 1) count_limit) (get_or columns (128 + x) 0)
    counts x b =
        answered.elsewhere (128 + x) (λ y l q. omega (arith, l, q))
        ∙ get_or-set_other with_count (0 + e) (128 + x) (clock + limit) 0 (λ q. omega (arith, e_small, q))
        ∙ stored columns 128 e x count (λ y. min (get_or columns (128 + y) 0 + 1) count_limit) (omega (arith, e_small, stands.three_columns)) count_is

    deadlines : (x : ℕ) → x < 64
        → get_or columns-after (64 + x) 0 ≡ sooner clock (response t e x) (has kept x) (get_or columns (64 + x) 0)
    deadlines x b =
        answered.deadlines x b
        ∙ ap (sooner clock (response t e x) (has kept x))
        (get_or-set_other with_count (0 + e) (64 + x) (clock + limit) 0 (λ q. omega (arith, e_small, q))
        ∙ get_or-set_other columns (128 + e) (64 + x) count 0 (λ q. omega (arith, b, q)))

    record_is : (x : ℕ) → x < t.events → effect_at t e x (record_in clock sets columns x) ≡ record_in clock sets_after columns-after x
    unfolding effect_at with_inclusion record_in fields_after
    record_is x b =
        let small : x < 64 = omega (arith, stands.few) in
        let d = response t e x in
        let written = four sets happened included pending bounded stands.four_sets in
        sym (rw (
          written.0,
          written.1,
          written.2,
          written.3,
          ap (λ (w : ℕ). has w x) happened-is ∙ has_with (get_or sets 0 0) e x,
          included-is x,
          pending-is x,
          bounded-is x,
          deadlines x small,
          left_to_go d (has kept x) clock (get_or columns (64 + x) 0),
          kept-is x,
          ap (λ (w : ℕ). has w x) firmly ∙ has_firm t.firm x small,
          cleared x,
          undated x,
          own.row 3 (omega arith) x,
          own.row 4 (omega arith) x,
          own.row 5 (omega arith) x,
          own.row 6 (omega arith) x,
          own.row 7 (omega arith) x,
          responses_are t e x good,
          bounded_are t e x good,
          inclusions_are t e x good,
          exclusions_are t e x good,
          ages x small,
          aged (eqb e x) clock (get_or columns x 0),
          counts x small,
          same_order e x,
        )
        (fields_are (age_at clock columns x) (ticks_at clock columns x) (get_or columns (128 + x) 0)
        (has (get_or sets 0 0) x) (has (get_or sets 1 0) x) (has (get_or sets 2 0) x) (has (get_or sets 3 0) x)
        t.firm d (eqb x e) (excludes t e x) (includes t e x)))

    pub effect_stands : Stands t.events tail clock sets_after columns-after (effect t m e)
    unfolding effect
    effect_stands =
        each_stands t.events tail clock sets columns m stands (effect_at t e) clock sets_after columns-after
        (four sets happened included pending bounded stands.four_sets).4
        (answered.same_size ∙ own_size)
        (λ x b. rw (ages x (omega (arith, b, stands.few))) (begun (eqb e x) clock (get_or columns x 0) (stands.ages_begun x b)))
        record_is

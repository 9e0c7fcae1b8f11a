-- A judged marking laid into words event by event, and read back from them. Assumes nothing.
use Rattle.std.specs.Prelude.{◌≡◌, refl, Bool, false, not, cond, ◌&&◌, ◌||◌, List, [], ◌∷◌, ◌++◌, ℕ, zero, suc, ◌<◌, ◌≤◌, ◌+◌, ◌-◌, eqb, leb, ltb, length, get_or, set, drop}
use Rattle.std.proofs.Common.{◌∙◌, ap₂, sym, subst, zero-add, add-zero, le_of_suc-le-suc, add-one, arith, length-set, get_or-set_same, get_or-set_other, drop-cons, eq-eqb, ne_eqb, lt-ltb, le-ltb, ltb-true, ltb-false, leb-true}
use Rattle.std.proofs.Math.Path.{ap}
use Rattle.std.proofs.Math.Bool.{true, and-true}
use Rattle.std.proofs.Math.Decide.{ℕ_discrete}
use Rattle.std.proofs.Math.Seq.{append_snoc, set-append_seam}
use Rattle.rules.specs.declared.Record.{Record}
use Rattle.rules.specs.declared.Marking.{Marking}
use Rattle.rules.specs.declared.Table.{Table}
use Rattle.rules.specs.Counting.{places, places_from}
use Rattle.rules.specs.EventSet.{has}
use Rattle.rules.specs.Holds.{limit, empty_record, record_of}
use Rattle.rules.specs.Judge.{state_fits}
use Rattle.rules.proofs.Laws.Tests.{both, and_false, or_false}
use Rattle.rules.proofs.Laws.Counting.{length_places, places_more}
use Rattle.rules.proofs.Laws.Fit.{fits_parts}
use Rattle.rules.proofs.Laws.EventSet.{has_zero}
use Rattle.rules.specs.Shapes.Good.{GoodMarking, Good}
use Rattle.acts.specs.Stands.{age_at, ticks_at, record_in, marking_in, Stands}
use Rattle.acts.specs.Laws.Stands.{four_of, four}

-- a record is read when each of its fields is
pub record_read : (clock : ℕ) (sets columns : List ℕ) (e age deadline count : ℕ) (happened included pending bounded : Bool)
    → happened ≡ has (get_or sets 0 0) e → included ≡ has (get_or sets 1 0) e → pending ≡ has (get_or sets 2 0) e → bounded ≡ has (get_or sets 3 0) e
    → age ≡ cond happened (age_at clock columns e) 0 → deadline ≡ cond bounded (ticks_at clock columns e) 0 → count ≡ get_or columns (128 + e) 0
    → record { age = age; deadline = deadline; happened = happened; included = included; pending = pending; bounded = bounded; count = count }
    ≡ record_in clock sets columns e
unfolding record_in
record_read clock sets columns e age deadline count happened included pending bounded h i p b a d c = rw (a, d, h, i, p, b, c)

-- the word has the events below n at which f holds
abbrev pub Upto : (ℕ → Bool) → ℕ → ℕ → Type 0
Upto f n w = (x : ℕ) → has w x ≡ (ltb x n && f x)

pub upto_none : (f : ℕ → Bool) → Upto f 0 0
upto_none f x = has_zero x ∙ sym (rw (le-ltb x 0 (omega arith)))

pub upto_more : (f : ℕ → Bool) (n w v : ℕ) → Upto f n w → ((y : ℕ) → has v y ≡ (has w y || (f n && eqb n y))) → Upto f (n + 1) v
upto_more f n w v old noted x = noted x ∙ ap (λ (b : Bool). b || (f n && eqb n x)) (old x) ∙ go (ℕ_discrete n x) (ltb x n) refl
  where
    go : Dec (n ≡ x) → (b : Bool) → ltb x n ≡ b → ((ltb x n && f x) || (f n && eqb n x)) ≡ (ltb x (n + 1) && f x)
    go (yes q) b h = rw (← q) (rw (le-ltb n n (omega arith), lt-ltb n (n + 1) (omega arith), eq-eqb n n refl) (and-true (f n)))
    go (no ne) true h = rw (h, lt-ltb x (n + 1) (omega (arith, ltb-true x n h)), ne_eqb n x ne, and_false (f n)) (or_false (f x))
    go (no ne) false h =
        let above : n + 1 ≤ x = omega (arith, ltb-false x n h, ne) in
        rw (h, le-ltb x (n + 1) above, ne_eqb n x ne) (and_false (f n))

-- laid as far as n
pub record Laid (m : Marking) (n happened included pending bounded : ℕ) (columns : List ℕ) : Type 0 where
  pub three_columns : length columns ≡ 192
  pub happened_laid : Upto (λ x. (record_of m x).happened) n happened
  pub included_laid : Upto (λ x. (record_of m x).included) n included
  pub pending_laid : Upto (λ x. (record_of m x).pending) n pending
  pub bounded_laid : Upto (λ x. (record_of m x).bounded) n bounded
  pub ages_laid : (x : ℕ) → x < n → get_or columns x 0 ≡ limit - (record_of m x).age
  pub deadlines_laid : (x : ℕ) → x < n → get_or columns (64 + x) 0 ≡ (record_of m x).deadline
  pub counts_laid : (x : ℕ) → x < n → get_or columns (128 + x) 0 ≡ (record_of m x).count

pub laid_none : (m : Marking) (columns : List ℕ) → length columns ≡ 192 → Laid m 0 0 0 0 0 columns
laid_none m columns size = record {
  three_columns = size;
  happened_laid = upto_none _;
  included_laid = upto_none _;
  pending_laid = upto_none _;
  bounded_laid = upto_none _;
  ages_laid = λ x b. absurd (omega arith);
  deadlines_laid = λ x b. absurd (omega arith);
  counts_laid = λ x b. absurd (omega arith);
}

-- a column that holds what it should at its first n places, with one place more stored
column_more : (l : List ℕ) (from n v : ℕ) (f : ℕ → ℕ) → from + n < length l → v ≡ f n → ((x : ℕ) → x < n → get_or l (from + x) 0 ≡ f x)
    → (x : ℕ) → x < n + 1 → get_or (set l (from + n) v) (from + x) 0 ≡ f x
column_more l from n v f fits is old x b =
    elim (ℕ_discrete x n) [
      | yes q ↦ rw q (get_or-set_same l (from + n) v 0 fits ∙ is)
      | no ne ↦ get_or-set_other l (from + n) (from + x) v 0 (λ q. ne (omega (arith, q))) ∙ old x (omega (arith, b, ne))
    ]

-- one event more
module _ (m : Marking) (n : ℕ) (small : n < 64) (columns : List ℕ) (full : ℕ) (age : full ≡ limit - (record_of m n).age) where
  abbrev with_age : List ℕ
  with_age = set columns n full

  abbrev with_deadline_lem : List ℕ
  with_deadline_lem = set with_age (64 + n) (record_of m n).deadline

  pub laid_more : (h i p b : ℕ) {h2 i2 p2 b2 : ℕ} → Laid m n h i p b columns
      → ((y : ℕ) → has h2 y ≡ (has h y || ((record_of m n).happened && eqb n y)))
      → ((y : ℕ) → has i2 y ≡ (has i y || ((record_of m n).included && eqb n y)))
      → ((y : ℕ) → has p2 y ≡ (has p y || ((record_of m n).pending && eqb n y)))
      → ((y : ℕ) → has b2 y ≡ (has b y || ((record_of m n).bounded && eqb n y)))
      → Laid m (n + 1) h2 i2 p2 b2 (set with_deadline_lem (128 + n) (record_of m n).count)
  laid_more h i p b old nh ni np nb = record {
    three_columns = length-set with_deadline_lem (128 + n) _ ∙ deadline_size;
    happened_laid = upto_more _ n h _ old.happened_laid nh;
    included_laid = upto_more _ n i _ old.included_laid ni;
    pending_laid = upto_more _ n p _ old.pending_laid np;
    bounded_laid = upto_more _ n b _ old.bounded_laid nb;
    ages_laid = λ x l.
        get_or-set_other with_deadline_lem (128 + n) x _ 0 (λ q. omega (arith, l, small, q))
        ∙ get_or-set_other with_age (64 + n) x _ 0 (λ q. omega (arith, l, small, q))
        ∙ (simp zero-add at (column_more columns 0 n full (λ y. limit - (record_of m y).age) (omega (arith, small, old.three_columns)) age
        (λ y b. ap (λ (place : ℕ). get_or columns place 0) (zero-add y) ∙ old.ages_laid y b) x l));
    deadlines_laid = λ x l.
        get_or-set_other with_deadline_lem (128 + n) (64 + x) _ 0 (λ q. omega (arith, l, small, q))
        ∙ column_more with_age 64 n _ (λ y. (record_of m y).deadline) (omega (arith, small, age_size)) refl
        (λ y b. get_or-set_other columns n (64 + y) full 0 (λ q. omega (arith, small, q)) ∙ old.deadlines_laid y b) x l;
    counts_laid =
        column_more with_deadline_lem 128 n _ (λ y. (record_of m y).count) (omega (arith, small, deadline_size)) refl
        (λ y b.
        get_or-set_other with_age (64 + n) (128 + y) _ 0 (λ q. omega (arith, small, q))
        ∙ get_or-set_other columns n (128 + y) full 0 (λ q. omega (arith, small, q))
        ∙ old.counts_laid y b);
  }
    where
      age_size : length with_age ≡ 192
      age_size = length-set columns n full ∙ old.three_columns

      deadline_size : length with_deadline_lem ≡ 192
      deadline_size = length-set with_age (64 + n) _ ∙ age_size

-- the first n places of a list, by what they hold, and the rest of it
pub places_drop : {A : Type 0} (d : A) (f : ℕ → A) (n : ℕ) (l : List A) → n ≤ length l → ((x : ℕ) → x < n → get_or l x d ≡ f x) → places n f ++ drop n l ≡ l
unfolding places_from
places_drop {A} d f n l b h = from 0 n l b (λ x c. h x c ∙ ap f (sym (zero-add x)))
  where
    from : (at k : ℕ) (rest : List A) → k ≤ length rest → ((x : ℕ) → x < k → get_or rest x d ≡ f (at + x)) → places_from at k f ++ drop k rest ≡ rest
    from at zero rest c g = refl
    from at (suc k) [] c g = absurd (omega arith)
    from at (suc k) (a ∷ rest) c g =
        ap₂ ◌∷◌ (ap f (sym (add-zero at)) ∙ sym (g 0 (omega arith)))
        (from (suc at) k rest (le_of_suc-le-suc c) (λ x e. g (suc x) (omega arith) ∙ ap f (omega arith)))

-- the fields of a judged record are read back
age_back : (so : Bool) (age full : ℕ) → age ≤ cond so limit 0 → full ≡ limit - age → age ≡ cond so (limit - (full - 0)) 0
age_back true age full b e = omega arith
age_back false age full b e = omega arith

ticks_back : (so : Bool) (ticks until : ℕ) → ticks ≤ cond so limit 0 → until ≡ ticks → ticks ≡ cond so (until - 0) 0
ticks_back true ticks until b e = omega arith
ticks_back false ticks until b e = omega arith

-- a judged marking that is laid stands in the words
module _ (m : Marking) (few : m.events ≤ 64) (there : m.events ≤ length m.records) (h i p b : ℕ) (sets columns : List ℕ) (four_sets : length sets ≡ 4)
    (laid : Laid m m.events h i p b columns) (judged : GoodMarking m.events m)
  where
    member : (w : ℕ) (f : ℕ → Bool) → Upto f m.events w → (x : ℕ) → x < m.events → f x ≡ has w x
    member w f made x l = sym (made x ∙ rw (lt-ltb x m.events l))

    back : (x : ℕ) → x < m.events → record_of m x ≡ record_in 0 (four_of sets h i p b) columns x
    unfolding state_fits
    back x l =
        let r = record_of m x in
        let f = four sets h i p b four_sets in
        let fits = both (leb r.age (cond r.happened limit 0)) _ (fits_parts r (judged.records_fit x l)).0 in
        let ticks = (both (cond r.pending true (not r.bounded)) _ fits.1).1 in
        record_read 0 (four_of sets h i p b) columns x r.age r.deadline r.count r.happened r.included r.pending r.bounded
        (member h _ laid.happened_laid x l ∙ ap (λ (w : ℕ). has w x) (sym f.0))
        (member i _ laid.included_laid x l ∙ ap (λ (w : ℕ). has w x) (sym f.1))
        (member p _ laid.pending_laid x l ∙ ap (λ (w : ℕ). has w x) (sym f.2))
        (member b _ laid.bounded_laid x l ∙ ap (λ (w : ℕ). has w x) (sym f.3))
        (age_back r.happened r.age _ (leb-true _ _ fits.0) (laid.ages_laid x l))
        (ticks_back r.bounded r.deadline _ (leb-true _ _ ticks) (laid.deadlines_laid x l))
        (sym (laid.counts_laid x l))

    pub laid_stands : Stands m.events (drop m.events m.records) 0 (four_of sets h i p b) columns m
    unfolding marking_in
    laid_stands = record {
      few = few;
      four_sets = (four sets h i p b four_sets).4;
      three_columns = laid.three_columns;
      ages_begun = λ x l. omega (arith, laid.ages_laid x l);
      is = ap {B = Marking} (λ rs. record { records = rs; events = m.events }) (sym (places_drop empty_record _ m.events m.records there back));
    }

-- a marking that is judged with a table is judged by itself, and what is laid of it has the table's events
module _ {t : Table} {m : Marking} (g : Good t m) where
  pub good_alone : GoodMarking m.events m
  good_alone = record { same_events = refl; records_fit = λ e b. g.marking_good.records_fit e (omega (arith, g.marking_good.same_events)) }

  pub lay_good : {tail : List Record} {clock : ℕ} {sets columns : List ℕ}
      → (GoodMarking m.events m → Stands m.events tail clock sets columns m) → Stands t.events tail clock sets columns m
  lay_good {tail} {clock} {sets} {columns} laid = subst (λ (n : ℕ). Stands n tail clock sets columns m) g.marking_good.same_events (laid good_alone)

-- reading back: nothing yet, and one place more
pub read_none : {A : Type 0} (f : ℕ → A) (l : List A) → l ≡ places 0 f ++ drop 0 l
unfolding places_from
read_none f l = refl

pub read_more : {A : Type 0} (d : A) (f : ℕ → A) (l : List A) (i : ℕ) → i < length l → set (places i f ++ drop i l) i (f i) ≡ places (i + 1) f ++ drop (i + 1) l
read_more {A} d f l i b =
    ap₂ {C = List A} (λ (rest : List A) (k : ℕ). set (places i f ++ rest) k (f i)) (drop-cons l i d b) (sym (length_places f i))
    ∙ set-append_seam (places i f) (get_or l i d) (drop (suc i) l) (f i)
    ∙ sym (append_snoc (places i f) (f i) (drop (suc i) l))
    ∙ ap₂ {C = List A} (λ (read : List A) (k : ℕ). read ++ drop k l) (sym (places_more f i)) (sym (add-one i))

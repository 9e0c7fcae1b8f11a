-- A walk over e's bounded responses: the dates that those gave that were met stand, and what the rest gives is still to come. Assumes nothing.
use Rattle.std.specs.Prelude.{◌≡◌, refl, Bool, true, false, ◌&&◌, cond, List, ℕ, ◌<◌, ◌≤◌, ◌+◌, ◌-◌, ◌/◌, ◌%◌, min, eqb, ltb, set}
use Rattle.std.proofs.Common.{◌∙◌, arith, get_or-set_same, eq-eqb, ne_eqb, lt-ltb}
use Rattle.std.proofs.Math.Path.{ap, sym}
use Rattle.std.proofs.Math.Bool.{or-true}
use Rattle.std.proofs.Math.Decide.{ℕ_discrete}
use Rattle.std.proofs.Math.ListN.{length, get_or, length-set}
use Rattle.std.proofs.Math.Seq.{get_or-set_other}
use Rattle.rules.specs.declared.Relation.{Relation}
use Rattle.rules.specs.declared.Table.{Table}
use Rattle.rules.specs.EventSet.{has, with_event}
use Rattle.rules.specs.Holds.{relation_of, is_response}
use Rattle.rules.specs.Effect.{Deadline, none, eventually, within, smaller, is_bounded, given, smallest, response}
use Rattle.rules.proofs.Laws.Tests.{clash, both, or_false}
use Rattle.rules.proofs.Laws.EventSet.{has_with}
use Rattle.rules.specs.Shapes.Good.{GoodTable}
use Rattle.acts.specs.Derived.{sort_of, of_sort, last_of, Own}
use Rattle.acts.specs.declared.links.Link.{Link}
use Rattle.acts.specs.Links.{link_in}
use Rattle.acts.specs.Acting.{sooner, Responded}
use Rattle.acts.specs.Laws.Derived.{right_small}
use Rattle.acts.specs.Laws.Linked.{responses_chained}
use Rattle.acts.specs.Laws.Sorts.{sorts}
use Rattle.acts.specs.Laws.Sorted.{given_bounded}
use Rattle.acts.specs.Laws.Walked.{last_kept, Next, next_last, LinkMet, met_next, met_less}

module _ (clock : ℕ) where
  -- a deadline that is not bounded gives none
  sooner_kept : (a d : Deadline) (counts : Bool) (date : ℕ) → is_bounded d ≡ false → sooner clock (smaller a d) counts date ≡ sooner clock a counts date
  sooner_kept none none counts date h = refl
  sooner_kept none eventually counts date h = refl
  sooner_kept eventually none counts date h = refl
  sooner_kept eventually eventually counts date h = refl
  sooner_kept (within c) none counts date h = refl
  sooner_kept (within c) eventually counts date h = refl
  sooner_kept a (within d) counts date h = absurd (clash refl h)

  -- one that is bounded gives its own, if no date that counts is earlier
  sooner_met : (a : Deadline) (time : ℕ) (counts : Bool) (date : ℕ)
      → sooner clock (smaller a (within time)) counts date ≡ sooner clock a true (cond counts (min (clock + time) date) (clock + time))
  sooner_met none time counts date = refl
  sooner_met eventually time counts date = refl
  sooner_met (within c) time true date = omega arith
  sooner_met (within c) time false date = omega arith

  -- the date that is stored for the right event of a response, which counts from then on
  abbrev date_after : ℕ → ℕ → ℕ → List ℕ → ℕ
  date_after right time dated columns = cond (has dated right) (min (clock + time) (get_or columns (64 + right) 0)) (clock + time)

  module _ (right time dated : ℕ) (columns : List ℕ) (fits : 64 + right < length columns) where
    abbrev date : ℕ
    date = date_after right time dated columns

    sooner_stored : (a : Deadline) (x : ℕ)
        → sooner clock a (has (with_event dated right) x) (get_or (set columns (64 + right) date) (64 + x) 0)
        ≡ sooner clock (smaller a (cond (eqb right x) (within time) none)) (has dated x) (get_or columns (64 + x) 0)
    sooner_stored a x =
        elim (ℕ_discrete x right) [
          | yes q ↦
              rw (q, has_with dated right right, eq-eqb right right refl, or-true (has dated right), get_or-set_same columns (64 + right) date 0 fits)
              (sym (sooner_met a time (has dated right) (get_or columns (64 + right) 0)))
          | no n ↦
              rw (
                has_with dated right x,
                ne_eqb right x (λ q. n (sym q)),
                or_false (has dated x),
                get_or-set_other columns (64 + right) (64 + x) date 0 (λ q. n (omega (arith, q))),
              )
              (sym (sooner_kept a none (has dated x) (get_or columns (64 + x) 0) refl))
        ]

-- what relation k gives x, by whether it is a bounded response of e
module _ (t : Table) (good : GoodTable t) (e x k : ℕ) (exists : k < t.count) where
  abbrev relation : Relation
  relation = relation_of t k

  answers : eqb (sort_of relation) 3 ≡ (is_response relation && relation.bounded)
  answers = (sorts relation (good.relations_good k exists)).answers

  given_no_date : of_sort t 3 e k ≡ false → is_bounded (given relation e x) ≡ false
  given_no_date other = given_bounded relation e x ∙ rw (← answers) (go (eqb (sort_of relation) 3) (eqb relation.left e) (eqb relation.right x) other)
    where
      go : (a l r : Bool) → (a && l) ≡ false → (a && (l && r)) ≡ false
      go true true r h = absurd (clash refl h)
      go true false r h = refl
      go false l r h = refl

  given_date : of_sort t 3 e k ≡ true → given relation e x ≡ cond (eqb relation.right x) (within relation.time) none
  unfolding given
  given_date own =
      let p = both (eqb (sort_of relation) 3) (eqb relation.left e) own in
      let q = both (is_response relation) relation.bounded (sym answers ∙ p.0) in
      rw (q.0, q.1, p.1)

module _ (t : Table) (e clock kept : ℕ) (before : List ℕ) where
  -- n is next; the dates of `kept` count, and of the events that were met: those of `dated`
  pub record Answering (n dated : ℕ) (columns : List ℕ) : Type 0 where
    pub next : Next t 3 e n
    pub same_size : length columns ≡ length before
    pub elsewhere : (place : ℕ) → ((x : ℕ) → x < 64 → place ≡ 64 + x → ⊥) → get_or columns place 0 ≡ get_or before place 0
    pub deadlines : (x : ℕ) → x < 64
        → sooner clock (smallest t e x n) (has dated x) (get_or columns (64 + x) 0) ≡ sooner clock (response t e x) (has kept x) (get_or before (64 + x) 0)

  pub answering_end : (n dated : ℕ) (columns : List ℕ) → Answering n dated columns → n ≡ 0 → Responded t e clock kept before columns
  unfolding smallest
  answering_end n dated columns w over = record {
    same_size = w.same_size;
    elsewhere = w.elsewhere;
    deadlines = λ x b. ap (λ (k : ℕ). sooner clock (smallest t e x k) (has dated x) (get_or columns (64 + x) 0)) (sym over) ∙ w.deadlines x b;
  }

  module _ (good : GoodTable t) (rows : List ℕ) (at : ℕ) (links : List ℕ) (own : Own t t.count e rows at links) where
    -- from the last bounded response on nothing more is given
    sooner_last : (x : ℕ) (counts : Bool) (date n : ℕ) → n ≤ t.count
        → sooner clock (smallest t e x (last_of t 3 e n)) counts date ≡ sooner clock (smallest t e x n) counts date
    unfolding smallest
    sooner_last x counts date n b =
        sym (last_kept t 3 e (λ k. sooner clock (smallest t e x k) counts date) n
        (λ k l other. sooner_kept clock (smallest t e x k) (given (relation_of t k) e x) counts date (given_no_date t good e x k (omega arith) other)))

    pub answering_start : Answering (get_or rows (at + 8) 0) kept before
    answering_start =
        rw own.responses (record {
          next = next_last t 3 e t.count (omega arith);
          same_size = refl;
          elsewhere = λ place other. refl;
          deadlines = λ x b. sooner_last x (has kept x) (get_or before (64 + x) 0) t.count (omega arith);
        })

    -- one response more, whose date is stored
    module _ (n dated : ℕ) (columns : List ℕ) (w : Answering n dated columns) (more : n ≡ 0 → ⊥) where
      abbrev link : ℕ
      link = get_or links ((n - 1) % 256) 0

      met : LinkMet t 3 e n link
      met = met_next t 3 e good rows at links own responses_chained n w.next more

      pub answering_less : link % 512 < n
      answering_less = met_less t 3 e met

      pub answering_more : length before ≡ 192
          → Answering (link % 512) (with_event dated (link / 512 % 64))
          (set columns (64 + link / 512 % 64) (date_after clock (link / 512 % 64) (link / 32768 % 1073741824) dated columns))
      unfolding smallest
      answering_more size =
          let k = met.place in
          let exists : k < t.count = met.exists in
          let right = (relation_of t k).right in
          let time = (relation_of t k).time in
          let small : right < 64 = right_small t good k exists in
          let fits : 64 + right < length columns = omega (arith, w.same_size) in
          let date = date_after clock right time dated columns in
          rw (met.next, met.right, met.time) (record {
            next = next_last t 3 e k (omega arith);
            same_size = length-set columns (64 + right) date ∙ w.same_size;
            elsewhere = λ place other. get_or-set_other columns (64 + right) place date 0 (other right small) ∙ w.elsewhere place other;
            deadlines = λ x b.
                let old = get_or columns (64 + x) 0 in
                sooner_last x (has (with_event dated right) x) (get_or (set columns (64 + right) date) (64 + x) 0) k (omega arith)
                ∙ sooner_stored clock right time dated columns fits (smallest t e x k) x
                ∙ ap (λ (d : Deadline). sooner clock (smaller (smallest t e x k) d) (has dated x) old) (sym (given_date t good e x k exists met.own))
                ∙ ap (λ (i : ℕ). sooner clock (smallest t e x i) (has dated x) old) (sym met.number)
                ∙ w.deadlines x b;
          })

      -- the same of the link as it is met, and of what is next then
      pub answering_met : {l : Link} {next : ℕ} → l ≡ link_in link → next ≡ cond (ltb l.before n) l.before 0 → length before ≡ 192
          → Answering next (with_event dated l.right) (set columns (64 + l.right) (date_after clock l.right l.time dated columns))
      answering_met is to size = rw (to, is, lt-ltb (link % 512) n answering_less) (answering_more size)

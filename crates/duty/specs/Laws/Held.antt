-- A relation as its five numbers are held is judged as they are: a number that does not fit its field is held as one that is refused for the same
-- reason. And where it is judged good, it is the relation that was told. Assumes nothing.
use Rattle.std.specs.Prelude.{◌≡◌, ◌&&◌, List, ℕ, ◌<◌, ◌≤◌, eqb, ltb}
use Rattle.std.proofs.Math.Path.{refl}
use Rattle.std.proofs.Common.{◌∙◌, sym, ⊎_elim, arith}
use Rattle.std.proofs.Math.Bool.{Bool, true, false, not, cond}
use Rattle.std.proofs.Math.Dec.{leb}
use borrow.Author.Tests.{ltb-true, le-ltb, le-leb, lt-leb, ne_eqb}
use Rattle.rules.specs.declared.Relation.{Relation}
use Rattle.rules.specs.Numbers.{◌if◌, ◌else◌}
use Rattle.rules.specs.Holds.{limit, most_events}
use Rattle.rules.specs.Judge.{time_fits, relation_number}
use Rattle.rules.specs.Building.{number_in, relation_from, numbers_number}
use Rattle.rules.specs.Shapes.Good.{GoodRelation}
use Rattle.rules.proofs.Laws.Tests.{decide}
use Rattle.rules.proofs.Laws.Numbers.{else_nothing}
use Rattle.rules.proofs.Laws.Granted.{time_fits_lem}
use Rattle.duty.specs.Making.{held, held_time, held_relation}

-- a test that says of 255 what it says of any number above says the same of a held number
held_test : (test : ℕ → Bool) (n : ℕ) → ((m : ℕ) → 255 ≤ m → test m ≡ test 255) → test (held n) ≡ test n
unfolding held
held_test test n h = go (ltb 255 n) refl
  where
    go : (b : Bool) → ltb 255 n ≡ b → test (cond b 255 n) ≡ test n
    go true e = sym (h n (omega (arith, ltb-true 255 n e)))
    go false e = refl

-- held below 255, it is the number itself
held_same : (n : ℕ) → held n < 255 → held n ≡ n
unfolding held
held_same n h = go (ltb 255 n) h
  where
    go : (b : Bool) → cond b 255 n < 255 → cond b 255 n ≡ n
    go true l = absurd (omega (arith, l))
    go false l = refl

time_same : (bounded time : ℕ) → held_time bounded time ≤ limit → held_time bounded time ≡ time
unfolding held_time
time_same bounded time h = go (ltb 1 bounded) h
  where
    go : (b : Bool) → cond b 4_294_967_295 time ≤ limit → cond b 4_294_967_295 time ≡ time
    go true l = absurd (omega (arith, l))
    go false l = refl

-- a relation as it is told and as it is held
module _ (events : ℕ) (few : events ≤ most_events) (kind left right bounded time : ℕ) where
  abbrev told : Relation
  told = record { kind = kind; left = left; right = right; bounded = eqb bounded 1; time = time }

  abbrev kept : Relation
  kept = record { kind = held kind; left = held left; right = held right; bounded = eqb bounded 1; time = held_time bounded time }

  is_kind : (leb 1 (held kind) && leb (held kind) 5) ≡ (leb 1 kind && leb kind 5)
  is_kind = held_test (λ n. leb 1 n && leb n 5) kind (λ m l. rw (le-leb 1 m (omega arith), lt-leb m 5 (omega arith)))

  of_kind : (k : ℕ) → k < 255 → eqb (held kind) k ≡ eqb kind k
  of_kind k b = held_test (λ n. eqb n k) kind (λ m l. ne_eqb m k (λ e. omega (arith, e)) ∙ sym (ne_eqb 255 k (λ e. omega (arith, e))))

  exists : (n : ℕ) → ltb (held n) events ≡ ltb n events
  exists n = held_test (λ x. ltb x events) n (λ m l. le-ltb m events (omega arith) ∙ sym (le-ltb 255 events (omega arith)))

  fits_alike : ltb 1 bounded ≡ false → time_fits kept ≡ time_fits told
  unfolding time_fits held_time
  fits_alike e = rw (of_kind 1 (omega arith), of_kind 2 (omega arith), e)

  -- no kind takes the time that stands for a bounded that is neither 0 nor 1
  fits_none : ltb 1 bounded ≡ true → time_fits kept ≡ false
  unfolding time_fits held_time
  fits_none e = rw (e, ne_eqb bounded 1 (λ z. omega (arith, z, ltb-true 1 bounded e))) (go (eqb (held kind) 1) (eqb (held kind) 2))
    where
      go : (condition response : Bool) → cond condition false (cond response false false) ≡ false
      go true response = refl
      go false true = refl
      go false false = refl

  judged_alike : relation_number events kept ≡ (relation_number events told else 6 if ltb 1 bounded)
  unfolding relation_number
  judged_alike = rw (is_kind, exists left, exists right) (⊎_elim broken whole (decide (ltb 1 bounded)))
    where
      no_kind : Bool
      no_kind = not (leb 1 kind && leb kind 5)

      no_event : Bool
      no_event = not (ltb left events && ltb right events)

      last : (a b fits : Bool) → (4 if a else 5 if b else 6) ≡ ((4 if a else 5 if b else 6 if not fits) else 6)
      last true b fits = refl
      last false true fits = refl
      last false false true = refl
      last false false false = refl

      broken : ltb 1 bounded ≡ true
          → (4 if no_kind else 5 if no_event else 6 if not (time_fits kept))
          ≡ ((4 if no_kind else 5 if no_event else 6 if not (time_fits told)) else 6 if ltb 1 bounded)
      broken e = rw (fits_none e, e) (last no_kind no_event (time_fits told))

      whole : ltb 1 bounded ≡ false
          → (4 if no_kind else 5 if no_event else 6 if not (time_fits kept))
          ≡ ((4 if no_kind else 5 if no_event else 6 if not (time_fits told)) else 6 if ltb 1 bounded)
      whole e = rw (fits_alike e, e) (sym (else_nothing (4 if no_kind else 5 if no_event else 6 if not (time_fits told))))

pub relation_judged : (events : ℕ) → events ≤ most_events → (numbers : List ℕ) (k : ℕ)
    → relation_number events (held_relation numbers k) ≡ numbers_number events numbers k
unfolding held_relation numbers_number relation_from
relation_judged events few numbers k =
    judged_alike events few (number_in numbers k 0) (number_in numbers k 1) (number_in numbers k 2) (number_in numbers k 3) (number_in numbers k 4)

-- judged good, a relation is the one that was told
pub relation_kept : (events : ℕ) → events ≤ most_events → (numbers : List ℕ) (k : ℕ) → GoodRelation events (held_relation numbers k)
    → held_relation numbers k ≡ relation_from numbers k
unfolding held_relation relation_from
relation_kept events few numbers k g =
    rw (
      held_same (number_in numbers k 0) (omega (arith, g.kind_small)),
      held_same (number_in numbers k 1) (omega (arith, g.left_exists)),
      held_same (number_in numbers k 2) (omega (arith, g.right_exists)),
      time_same (number_in numbers k 3) (number_in numbers k 4) (time_fits_lem _ g.fits),
    )

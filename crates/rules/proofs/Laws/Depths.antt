-- How deep links stand. Of the links of a visit at depth d each is the event's own, d deep, or has an earlier one, one less deep, that leads to it;
-- and the event's own are all d deep: below it is opened already, so that none of its relations is listed there. None is deeper than a visit goes.
use Rattle.std.specs.Prelude.{◌≡◌, Bool, true, false, ◌||◌, List, [], ◌++◌, ◌⊎◌, ltb, length}
use Rattle.std.proofs.Math.Path.{refl}
use Rattle.std.proofs.Common.{◌∙◌, ap, sym, subst, ⊎_elim, inl, inr, arith, length-append, get_or-append-add, eq-eqb, ltb-true, ltb-false}
use Rattle.std.proofs.Math.Bool.{not, cond}
use Prim.Native.Nat.{ℕ, zero, suc, ◌<◌, ◌≤◌, ◌+◌, ◌-◌}
use Rattle.std.proofs.Math.ListN.{get_or-append}
use Rattle.rules.specs.declared.Table.{Table}
use Rattle.rules.specs.declared.Marking.{Marking}
use Rattle.rules.specs.EventSet.{has, with_event}
use Rattle.rules.specs.Holds.{relation_of, record_of}
use Rattle.rules.specs.Enabled.{blocks}
use Rattle.rules.specs.Chain.{Link, Visit, link, nothing, led_to, along, visit, link_at, LedTo}
use Rattle.rules.specs.Shapes.Good.{GoodTable}
use Rattle.rules.proofs.Laws.Tests.{clash, denied, not_true, or_right}
use Rattle.rules.proofs.Laws.Counting.{many_lt}
use Rattle.rules.proofs.Laws.EventSet.{has_with}
use Rattle.rules.proofs.Laws.Links.{Each, each_append, along_links, listed_at}
use Rattle.rules.proofs.Laws.Visits.{Left, unopened, blocks_left, fewer, was_opened, visited}

module _ (t : Table) (m : Marking) (good : GoodTable t) where
  abbrev left : ℕ → ℕ
  left k = (relation_of t k).left

  abbrev right : ℕ → ℕ
  right k = (relation_of t k).right

  abbrev pub Own : ℕ → ℕ → Link → Type 0
  Own d e l = (l.depth ≡ d) × (left l.relation ≡ e)

  abbrev pub Rooted : ℕ → ℕ → List Link → Type 0
  Rooted d e links = (i : ℕ) → i < length links → Own d e (link_at links i) ⊎ LedTo t links i

  rooted_append : (d e : ℕ) (a b : List Link) → Rooted d e a → Rooted d e b → Rooted d e (a ++ b)
  rooted_append d e a b p q i h = go (ltb i (length a)) refl
    where
      at : (j : ℕ) → j < length a → link_at (a ++ b) j ≡ link_at a j
      at j c = get_or-append a b (link 0 0) j c

      past : (j : ℕ) → link_at (a ++ b) (length a + j) ≡ link_at b j
      past j = get_or-append-add a b j (link 0 0)

      go : (first : Bool) → ltb i (length a) ≡ first → Own d e (link_at (a ++ b) i) ⊎ LedTo t (a ++ b) i
      go true c =
          let in-a : i < length a = ltb-true i (length a) c in
          ⊎_elim (λ own. inl (subst (Own d e) (sym (at i in-a)) own))
          (λ y. inr (record {
            place = y.place;
            earlier = y.earlier;
            above = rw (at y.place (omega (arith, y.earlier, in-a)), at i in-a) y.above;
            leads = ap (λ (l : Link). right l.relation) (at y.place (omega (arith, y.earlier, in-a))) ∙ y.leads
                ∙ ap (λ (l : Link). left l.relation) (sym (at i in-a));
          }))
          (p i in-a)
      go false c =
          let j : ℕ = i - length a in
          let is : i ≡ length a + j = omega (arith, ltb-false i (length a) c) in
          let in_b : j < length b = omega (arith, h, length-append a b, ltb-false i (length a) c) in
          subst (λ x. Own d e (link_at (a ++ b) x) ⊎ LedTo t (a ++ b) x) (sym is)
          (⊎_elim (λ own. inl (subst (Own d e) (sym (past j)) own))
          (λ y. inr (record {
            place = length a + y.place;
            earlier = omega (arith, y.earlier);
            above = rw (past y.place, past j) y.above;
            leads = ap (λ (l : Link). right l.relation) (past y.place) ∙ y.leads ∙ ap (λ (l : Link). left l.relation) (sym (past j));
          }))
          (q j in_b))

  rooted_led : (d e k : ℕ) (v : Visit) → left k ≡ e → Rooted (suc d) (right k) v.links → Rooted d e (led_to k d v).links
  rooted_led d e k v is p zero h = inl (refl, is)
  rooted_led d e k v is p (suc i) h =
      ⊎_elim
      (λ own. inr (record { place = 0; earlier = omega arith; above = omega (arith, own.0); leads = sym own.1 }))
      (λ y. inr (record { place = suc y.place; earlier = omega (arith, y.earlier); above = y.above; leads = y.leads }))
      (p i (omega (arith, h)))

  pub rooted : (f d e o : ℕ) → Rooted d e (visit t m f d e o).links
  unfolding visit
  rooted zero d e o = λ i h. absurd (omega (arith, h))
  rooted (suc f) d e o = go (has o e || not (record_of m e).included) (rooted f)
    where
      step : ℕ → ℕ → Visit
      step k p = cond (blocks t m e k) (led_to k d (visit t m f (suc d) (right k) p)) (nothing p)

      empty : Rooted d e []
      empty i h = absurd (omega (arith, h))

      go : (stays : Bool) → ((d e o : ℕ) → Rooted d e (visit t m f d e o).links)
          → Rooted d e (cond stays (nothing o) (along t.count step (with_event o e))).links
      go true ih = empty
      go false ih =
          along_links (λ p. Unit {0}) (Rooted d e) step empty (rooted_append d e) t.count (λ k p b q. (tt, stepped k p (blocks t m e k) refl))
          (with_event o e) tt
        where
          stepped : (k p : ℕ) (blocked : Bool) → blocks t m e k ≡ blocked → Rooted d e (step k p).links
          stepped k p true is = rw is (rooted_led d e k (visit t m f (suc d) (right k) p) (blocks_left t m good e k is) (ih (suc d) (right k) p))
          stepped k p false is = rw is empty

  abbrev pub OwnDeep : ℕ → ℕ → List Link → Type 0
  OwnDeep d e = Each (λ l. left l.relation ≡ e → l.depth ≡ d)

  pub own_deep : (f d e o : ℕ) → e < t.events → unopened t o ≤ f → OwnDeep d e (visit t m f d e o).links
  unfolding visit
  own_deep zero d e o b enough = λ i h. absurd (omega (arith, h))
  own_deep (suc f) d e o b enough = go (has o e) (record_of m e).included refl refl
    where
      step : ℕ → ℕ → Visit
      step k p = cond (blocks t m e k) (led_to k d (visit t m f (suc d) (right k) p)) (nothing p)

      empty : OwnDeep d e []
      empty i h = absurd (omega (arith, h))

      Q : ℕ → Type 0
      Q p = (has p e ≡ true) × (unopened t p ≤ f)

      stepped : (k p : ℕ) → k < t.count → (has p e ≡ true) × (unopened t p ≤ f) → (blocked : Bool) → blocks t m e k ≡ blocked
          → ((has (step k p).opened e ≡ true) × (unopened t (step k p).opened ≤ f)) × OwnDeep d e (step k p).links
      stepped k p c q true is =
          let v = (visited t m good f (suc d) (right k) p (good.relations_good k c).right_exists q.1).0 in
          rw is ((v.grows e q.0, omega (arith, fewer t m good p (visit t m f (suc d) (right k) p).opened v.grows, q.1)), deep v)
        where
          deep : Left t m good p (visit t m f (suc d) (right k) p) → OwnDeep d e (led_to k d (visit t m f (suc d) (right k) p)).links
          deep v zero h l = refl
          deep v (suc i) h l =
              absurd (clash q.0 (subst (λ y. has p y ≡ false) l
              (v.sound _ (listed_at (visit t m f (suc d) (right k) p).links i (omega (arith, h)))).1))
      stepped k p c q false is = rw is (q, empty)

      go : (seen included : Bool) → has o e ≡ seen → (record_of m e).included ≡ included → OwnDeep d e (visit t m (suc f) d e o).links
      go true included is there = rw is empty
      go false false is there = rw (is, there) empty
      go false true is there =
          let less : unopened t (with_event o e) < unopened t o =
          many_lt (λ x. not (has (with_event o e) x)) (λ x. not (has o x))
          (λ x h. ap not (denied (has o x) (λ q. clash (was_opened t m good o e x q) (not_true _ h))))
          t.events e b (ap not (has_with o e e ∙ or_right (has o e) _ (eq-eqb e e refl))) (ap not is) in
          rw (is, there)
          (along_links (λ p. (has p e ≡ true) × (unopened t p ≤ f)) (OwnDeep d e) step empty
          (each_append (λ l. left l.relation ≡ e → l.depth ≡ d)) t.count
          (λ k p c q. stepped k p c q (blocks t m e k) refl) (with_event o e)
          (has_with o e e ∙ or_right (has o e) _ (eq-eqb e e refl), omega (arith, less, enough)))

  -- a visit at depth d that goes down at most f events lists nothing as deep as d + f
  pub shallow : (f d e o : ℕ) → Each (λ l. l.depth < d + f) (visit t m f d e o).links
  unfolding visit
  shallow zero d e o = λ i h. absurd (omega (arith, h))
  shallow (suc f) d e o = go (has o e || not (record_of m e).included) (shallow f)
    where
      Near : Link → Type 0
      Near l = l.depth < d + suc f

      step : ℕ → ℕ → Visit
      step k p = cond (blocks t m e k) (led_to k d (visit t m f (suc d) (right k) p)) (nothing p)

      empty : Each Near []
      empty i h = absurd (omega (arith, h))

      go : (stays : Bool) → ((d e o : ℕ) → Each (λ l. l.depth < d + f) (visit t m f d e o).links)
          → Each Near (cond stays (nothing o) (along t.count step (with_event o e))).links
      go true ih = empty
      go false ih =
          along_links (λ p. Unit {0}) (Each Near) step empty (each_append Near) t.count (λ k p b q. (tt, stepped k p (blocks t m e k) refl))
          (with_event o e) tt
        where
          led : (k p : ℕ) → Each Near (led_to k d (visit t m f (suc d) (right k) p)).links
          led k p zero h = omega arith
          led k p (suc i) h = omega (arith, ih (suc d) (right k) p i (omega (arith, h)))

          stepped : (k p : ℕ) (blocked : Bool) → blocks t m e k ≡ blocked → Each Near (step k p).links
          stepped k p true is = rw is (led k p)
          stepped k p false is = rw is empty

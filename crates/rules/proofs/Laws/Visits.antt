-- What a visit leaves, whatever is opened before it: each relation that it lists blocks an event that it opens, of each event that it opens all
-- blocking relations are listed, none twice; and what it opens is reached.
use Rattle.std.specs.Prelude.{◌≡◌, Bool, ◌||◌, [], ◌++◌, ◌⊎◌, eqb}
use Rattle.std.proofs.Math.Path.{refl, ap, subst}
use Rattle.std.proofs.Common.{◌∙◌, sym, arith}
use Rattle.std.proofs.Math.Bool.{true, false, not, cond}
use Rattle.std.proofs.Math.Logic.{⊎_elim}
use Prim.Native.Nat.{ℕ, zero, suc, ◌<◌, ◌≤◌}
use borrow.Author.Tests.{eqb-true, eq-eqb, ne_eqb}
use Rattle.rules.specs.declared.Table.{Table}
use Rattle.rules.specs.declared.Marking.{Marking}
use Rattle.rules.specs.Counting.{how_many}
use Rattle.rules.specs.EventSet.{has, with_event}
use Rattle.rules.specs.Holds.{relation_of, record_of}
use Rattle.rules.specs.Enabled.{stops, blocks}
use Rattle.rules.specs.Chain.{Visit, nothing, led_to, along, visit, listed}
use Rattle.rules.specs.Shapes.Good.{GoodTable}
use Rattle.rules.proofs.Laws.Tests.{clash, denied, affirmed, decide, both, either, join, not_true, or_left, or_right, last_or_below}
use Rattle.rules.proofs.Laws.Counting.{many_mono, many_lt}
use Rattle.rules.proofs.Laws.EventSet.{has_with}
use Rattle.rules.proofs.Laws.Links.{once, listed_append, append_nothing, once_append, along_keeps}

-- how many events are not opened
abbrev pub unopened : Table → ℕ → ℕ
unopened t opened = how_many t.events (λ x. not (has opened x))

first_false : (a b : Bool) → a ≡ false → a || b ≡ true → b ≡ true
first_false true b p h = absurd (clash refl p)
first_false false b p h = h

module _ (t : Table) (m : Marking) (good : GoodTable t) where
  abbrev left : ℕ → ℕ
  left k = (relation_of t k).left

  abbrev right : ℕ → ℕ
  right k = (relation_of t k).right

  -- what a visit that begins with some events opened leaves
  pub record Left (o : ℕ) (s : Visit) : Type 0 where
    pub grows : (x : ℕ) → has o x ≡ true → has s.opened x ≡ true
    pub sound : (k : ℕ) → listed k s.links ≡ true
        → (k < t.count) × (has o (left k) ≡ false) × (has s.opened (left k) ≡ true) × (blocks t m (left k) k ≡ true)
    pub closed : (x : ℕ) → has o x ≡ false → has s.opened x ≡ true → (k : ℕ) → k < t.count → blocks t m x k ≡ true
        → (listed k s.links ≡ true) × (has s.opened (right k) ≡ true)
    pub single : once s.links ≡ true

  none : (o : ℕ) → Left o (nothing o)
  unfolding listed once
  none o = record {
    grows = λ x h. h;
    sound = λ k h. absurd (clash h refl);
    closed = λ x p q. absurd (clash q p);
    single = refl;
  }

  -- a relation that blocks an event has it as left, and its right event is included
  pub blocks_left : (e k : ℕ) → blocks t m e k ≡ true → left k ≡ e
  unfolding blocks
  blocks_left e k h = eqb-true (left k) e (both (eqb (left k) e) _ h).0

  pub blocks_right : (e k : ℕ) → blocks t m e k ≡ true → (record_of m (right k)).included ≡ true
  unfolding blocks stops
  blocks_right e k h = (both (record_of m (right k)).included _ (both (eqb (left k) e) _ h).1).0

  -- fewer are unopened where more are opened
  pub fewer : (o p : ℕ) → ((x : ℕ) → has o x ≡ true → has p x ≡ true) → unopened t p ≤ unopened t o
  fewer o p more = many_mono (λ x. not (has p x)) (λ x. not (has o x))
      (λ x h. ap not (denied (has o x) (λ q. clash (more x q) (not_true (has p x) h)))) t.events

  pub was_opened : (o e x : ℕ) → has o x ≡ true → has (with_event o e) x ≡ true
  was_opened o e x h = has_with o e x ∙ or_left (has o x) _ h

  -- The relations of one event, in order. Before it some are opened, o; it is opened itself, and f goes on from there.
  module _ (f d e o : ℕ) (new : has o e ≡ false) (enough : unopened t (with_event o e) ≤ f)
      (below : (d x p : ℕ) → x < t.events → unopened t p ≤ f
      → Left p (visit t m f d x p) × ((record_of m x).included ≡ true → has (visit t m f d x p).opened x ≡ true)) where
    abbrev step : ℕ → ℕ → Visit
    step k p = cond (blocks t m e k) (led_to k d (visit t m f (suc d) (right k) p)) (nothing p)

    abbrev at : ℕ → Visit
    at i = along i step (with_event o e)

    record Partly (i : ℕ) (s : Visit) : Type 0 where
      pub grows : (x : ℕ) → has (with_event o e) x ≡ true → has s.opened x ≡ true
      pub sound : (k : ℕ) → listed k s.links ≡ true
          → (k < t.count) × (has o (left k) ≡ false) × (has s.opened (left k) ≡ true) × (blocks t m (left k) k ≡ true)
      pub own : (k : ℕ) → k < i → blocks t m e k ≡ true → (listed k s.links ≡ true) × (has s.opened (right k) ≡ true)
      pub not_yet : (k : ℕ) → i ≤ k → left k ≡ e → listed k s.links ≡ false
      pub closed : (x : ℕ) → has (with_event o e) x ≡ false → has s.opened x ≡ true → (k : ℕ) → k < t.count → blocks t m x k ≡ true
          → (listed k s.links ≡ true) × (has s.opened (right k) ≡ true)
      pub single : once s.links ≡ true

    in_with : has (with_event o e) e ≡ true
    in_with = has_with o e e ∙ or_right (has o e) _ (eq-eqb e e refl)

    -- one relation more, that blocks
    more : (i : ℕ) (s v : Visit) → i < t.count → blocks t m e i ≡ true → Partly i s → Left s.opened v → has v.opened (right i) ≡ true
        → Partly (suc i) (record { opened = v.opened; links = s.links ++ (led_to i d v).links })
    unfolding listed once
    more i s v b is p w there = record {
      grows = λ x h. w.grows x (p.grows x h);
      sound = λ k h. ⊎_elim (λ q. let r = p.sound k q in (r.0, r.1, w.grows _ r.2, r.3)) (λ q. sound_below k q) (parts k h);
      own = λ k c q. ⊎_elim
          (λ (z : k ≡ i). (lifts k (or_left _ _ (eq-eqb k i z)), subst (λ y. has v.opened (right y) ≡ true) (sym z) there))
          (λ (l : k < i). let r = p.own k l q in (keeps k r.0, w.grows _ r.1))
          (last_or_below c);
      not_yet = λ k c l. listed_append k s.links (led_to i d v).links
          ∙ rw (p.not_yet k (omega (arith, c)) l, ne_eqb k i (λ z. omega (arith, c, z)))
          (denied _ (λ h. clash (subst (λ y. has s.opened y ≡ true) (sym l) own_open) (w.sound k h).1));
      closed = λ x n h k c q. ⊎_elim
          (λ y. let r = p.closed x n y k c q in (keeps k r.0, w.grows _ r.1))
          (λ y. let r = w.closed x y h k c q in (lifts k (or_right (eqb k i) _ r.0), r.1))
          (decide (has s.opened x));
      single = once_append s.links (led_to i d v).links p.single
          (join (ap not (denied (listed i v.links) (λ h. clash own_left (w.sound i h).1))) w.single) apart;
    }
      where
        own_open : has s.opened e ≡ true
        own_open = p.grows e in_with

        own_left : has s.opened (left i) ≡ true
        own_left = subst (λ y. has s.opened y ≡ true) (sym (blocks_left e i is)) own_open

        parts : (k : ℕ) → listed k (s.links ++ (led_to i d v).links) ≡ true
            → (listed k s.links ≡ true) ⊎ ((eqb k i || listed k v.links) ≡ true)
        parts k h = either (listed k s.links) _ (sym (listed_append k s.links (led_to i d v).links) ∙ h)

        keeps : (k : ℕ) → listed k s.links ≡ true → listed k (s.links ++ (led_to i d v).links) ≡ true
        keeps k h = listed_append k s.links (led_to i d v).links ∙ or_left (listed k s.links) _ h

        lifts : (k : ℕ) → eqb k i || listed k v.links ≡ true → listed k (s.links ++ (led_to i d v).links) ≡ true
        lifts k h = listed_append k s.links (led_to i d v).links ∙ or_right (listed k s.links) _ h

        sound_below : (k : ℕ) → eqb k i || listed k v.links ≡ true
            → (k < t.count) × (has o (left k) ≡ false) × (has v.opened (left k) ≡ true) × (blocks t m (left k) k ≡ true)
        sound_below k h = ⊎_elim
            (λ q. let z = eqb-true k i q in subst (λ y. (y < t.count) × (has o (left y) ≡ false) × (has v.opened (left y) ≡ true)
            × (blocks t m (left y) y ≡ true)) (sym z) (
              b,
              rw (blocks_left e i is) new,
              w.grows _ own_left,
              rw (blocks_left e i is) is,
            ))
            (λ q. let r = w.sound k q in (r.0, denied _ (λ y. clash (p.grows _ (was_opened o e _ y)) r.1), r.2, r.3))
            (either (eqb k i) _ h)

        apart : (k : ℕ) → listed k s.links ≡ true → eqb k i || listed k v.links ≡ true → ⊥
        apart k h q = ⊎_elim
            (λ z. clash (subst (λ y. listed y s.links ≡ true) (eqb-true k i z) h) (p.not_yet i (omega arith) (blocks_left e i is)))
            (λ z. clash (p.sound k h).2 (w.sound k z).1)
            (either (eqb k i) _ q)

    -- one relation more, that does not block
    same : (i : ℕ) (s : Visit) → blocks t m e i ≡ false → Partly i s → Partly (suc i) (record { opened = s.opened; links = s.links ++ [] })
    same i s is p = subst (λ l. Partly (suc i) (record { opened = s.opened; links = l })) (sym (append_nothing s.links))
        (record {
          grows = p.grows;
          sound = p.sound;
          own = λ k c q. ⊎_elim
              (λ (z : k ≡ i). absurd (clash (subst (λ y. blocks t m e y ≡ true) z q) is))
              (λ (l : k < i). p.own k l q)
              (last_or_below c);
          not_yet = λ k c l. p.not_yet k (omega (arith, c)) l;
          closed = p.closed;
          single = p.single;
        })

    partly : (i : ℕ) → i ≤ t.count → Partly i (at i)
    unfolding along listed once
    partly zero b = record {
      grows = λ x h. h;
      sound = λ k h. absurd (clash h refl);
      own = λ k h. absurd (omega (arith, h));
      not_yet = λ k h l. refl;
      closed = λ x p q. absurd (clash q p);
      single = refl;
    }
    partly (suc i) b = go (blocks t m e i) refl (partly i (omega (arith, b)))
      where
        go : (blocked : Bool) → blocks t m e i ≡ blocked → Partly i (at i) → Partly (suc i) (at (suc i))
        go true is p =
            let v = below (suc d) (right i) (at i).opened (good.relations_good i b).right_exists
            (omega (arith, fewer (with_event o e) (at i).opened p.grows, enough)) in
            rw is (more i (at i) (visit t m f (suc d) (right i) (at i).opened) b is p v.0 (v.1 (blocks_right e i is)))
        go false is p = rw is (same i (at i) is p)

    whole : Left o (at t.count)
    whole = let p = partly t.count (omega arith) in record {
      grows = λ x h. p.grows x (was_opened o e x h);
      sound = p.sound;
      closed = λ x n h k c q. ⊎_elim
          (λ y. let z = eqb-true e x (first_false (has o x) _ n (sym (has_with o e x) ∙ y)) in p.own k c (subst (λ w. blocks t m w k ≡ true) (sym z) q))
          (λ y. p.closed x y h k c q)
          (decide (has (with_event o e) x));
      single = p.single;
    }

    itself : has (at t.count).opened e ≡ true
    itself = (partly t.count (omega arith)).grows e in_with

  pub visited : (f d e o : ℕ) → e < t.events → unopened t o ≤ f
      → Left o (visit t m f d e o) × ((record_of m e).included ≡ true → has (visit t m f d e o).opened e ≡ true)
  unfolding visit
  visited zero d e o b enough = (
    none o,
    λ h. affirmed (has o e) (λ new. absurd
        (omega (arith, enough, many_lt (λ x. false) (λ x. not (has o x)) (λ x h. absurd (clash h refl)) t.events e b refl (ap not new)))),
  )
  visited (suc f) d e o b enough = go (has o e) (record_of m e).included refl refl (λ d x p. visited f d x p)
    where
      go : (seen included : Bool) → has o e ≡ seen → (record_of m e).included ≡ included
          → ((d x p : ℕ) → x < t.events → unopened t p ≤ f
          → Left p (visit t m f d x p) × ((record_of m x).included ≡ true → has (visit t m f d x p).opened x ≡ true))
          → Left o (visit t m (suc f) d e o) × ((record_of m e).included ≡ true → has (visit t m (suc f) d e o).opened e ≡ true)
      go true included is there ih = rw is (none o, λ h. is)
      go false false is there ih = rw (is, there) (none o, λ h. absurd (clash h refl))
      go false true is there ih =
          let less : unopened t (with_event o e) < unopened t o =
          many_lt (λ x. not (has (with_event o e) x)) (λ x. not (has o x)) (λ x h. ap not (denied (has o x) (λ q. clash (was_opened o e x q) (not_true _ h))))
          t.events e b (ap not (has_with o e e ∙ or_right (has o e) _ (eq-eqb e e refl))) (ap not is) in
          rw (is, there) (whole f d e o is (omega (arith, less, enough)) ih, λ h. itself f d e o is (omega (arith, less, enough)) ih)

  -- What is opened is reached: whatever holds of the asked event and is handed on by relations that block holds of it.
  module _ (P : ℕ → Type 0) (on : (k : ℕ) → k < t.count → blocks t m (left k) k ≡ true → P (left k) → P (right k)) where
    pub reaches : (f d e o : ℕ) → ((x : ℕ) → has o x ≡ true → P x) → ((record_of m e).included ≡ true → P e)
        → (x : ℕ) → has (visit t m f d e o).opened x ≡ true → P x
    unfolding visit
    reaches zero d e o start own = start
    reaches (suc f) d e o start own = go (has o e) (record_of m e).included refl refl (reaches f)
      where
        go : (seen included : Bool) → has o e ≡ seen → (record_of m e).included ≡ included
            → ((d e o : ℕ) → ((x : ℕ) → has o x ≡ true → P x) → ((record_of m e).included ≡ true → P e)
            → (x : ℕ) → has (visit t m f d e o).opened x ≡ true → P x)
            → (x : ℕ) → has (visit t m (suc f) d e o).opened x ≡ true → P x
        go true included is there ih = rw is start
        go false false is there ih = rw (is, there) start
        go false true is there ih =
            rw (is, there)
            (along_keeps (λ p. (x : ℕ) → has p x ≡ true → P x) step t.count (λ k p b q. stepped k p b q (blocks t m e k) refl) (with_event o e) opening)
          where
            step : ℕ → ℕ → Visit
            step k p = cond (blocks t m e k) (led_to k d (visit t m f (suc d) (right k) p)) (nothing p)

            opening : (x : ℕ) → has (with_event o e) x ≡ true → P x
            opening x h = ⊎_elim (λ p. start x p) (λ p. subst P (eqb-true e x p) (own there)) (either (has o x) _ (sym (has_with o e x) ∙ h))

            stepped : (k p : ℕ) → k < t.count → ((x : ℕ) → has p x ≡ true → P x) → (blocked : Bool) → blocks t m e k ≡ blocked
                → (x : ℕ) → has (step k p).opened x ≡ true → P x
            stepped k p b q true h =
                rw h (ih (suc d) (right k) p q
                (λ i. on k b (subst (λ y. blocks t m y k ≡ true) (sym (blocks_left e k h)) h) (subst P (sym (blocks_left e k h)) (own there))))
            stepped k p b q false h = rw h q

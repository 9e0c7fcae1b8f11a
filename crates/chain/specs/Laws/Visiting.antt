-- A visit that is carried out piece by piece, from one blocking relation to the next. Assumes nothing.
use Rattle.std.specs.Prelude.{◌≡◌, refl, true, false, List, ◌++◌, Option, Some, None, eqb}
use Rattle.std.proofs.Common.{sym, ◌∙◌, add-zero, add-suc, arith, eq-eqb}
use Rattle.std.proofs.Math.Path.{ap}
use Prim.Native.Nat.{ℕ, zero, suc, ◌+◌, ◌-◌, ◌<◌, ◌≤◌}
use Rattle.rules.specs.declared.Table.{Table}
use Rattle.rules.specs.declared.Marking.{Marking}
use Rattle.rules.specs.EventSet.{has, size_of, with_event}
use Rattle.rules.specs.Holds.{relation_of, record_of}
use Rattle.rules.specs.Enabled.{blocks}
use Rattle.rules.specs.Chain.{Link, Visit, link, nothing, led_to, along, visit}
use Rattle.rules.proofs.Laws.EventSet.{has_with}
use Rattle.rules.proofs.Laws.Counting.{many_lt, many_le}
use Rattle.rules.proofs.Laws.Tests.{or_left, or_right}
use Rattle.rules.proofs.Laws.Links.{append_nothing}
use Rattle.chain.specs.Visits.{State, step, noted, notes, carried, First}
use Rattle.chain.specs.Laws.Notes.{carried_joined, carried_nothing}

-- an event that is opened makes the set larger, and there are at most 64
pub size_grows : (o e : ℕ) → e < 64 → has o e ≡ false → size_of o < size_of (with_event o e)
unfolding size_of
size_grows o e b h =
    many_lt (has o) (has (with_event o e)) (λ y p. has_with o e y ∙ or_left (has o y) (eqb e y) p) 64 e b h
    (has_with o e e ∙ or_right (has o e) (eqb e e) (eq-eqb e e refl))

pub size_small : (o : ℕ) → size_of o ≤ 64
unfolding size_of
size_small o = many_le (has o) 64

-- relations from a to b of which nothing is made
along_past : (g : ℕ → ℕ → Visit) (a more o : ℕ) → ((k p : ℕ) → a ≤ k → k < a + more → g k p ≡ nothing p) → along (a + more) g o ≡ along a g o
unfolding along
along_past g a zero o none = ap (λ (k : ℕ). along k g o) (add-zero a)
along_past g a (suc more) o none =
    ap (λ (k : ℕ). along k g o) (add-suc a more)
    ∙ last (along_past g a more o (λ k p from to. none k p from (omega (arith, to))))
  where
    last : along (a + more) g o ≡ along a g o → along (suc (a + more)) g o ≡ along a g o
    last ih =
        ap (λ (v : Visit). record { opened = v.opened; links = (along (a + more) g o).links ++ v.links })
        (none (a + more) (along (a + more) g o).opened (omega arith) (omega arith))
        ∙ ap (λ (l : List Link). record { opened = (along (a + more) g o).opened; links = l }) (append_nothing (along (a + more) g o).links)
        ∙ ih

along_skip : (g : ℕ → ℕ → Visit) (a b o : ℕ) → a ≤ b → ((k p : ℕ) → a ≤ k → k < b → g k p ≡ nothing p) → along b g o ≡ along a g o
along_skip g a b o le none =
    let whole : b ≡ a + (b - a) = omega (arith, le) in
    ap (λ (n : ℕ). along n g o) whole ∙ along_past g a (b - a) o (λ k p from to. none k p from (omega (arith, to, le)))

module _ (t : Table) (m : Marking) where
  -- an event that is open, and one that is not
  pub seen : (f d e : ℕ) (s : State) → has s.opened e ≡ true → carried (visit t m f d e s.opened) s ≡ s
  unfolding visit
  seen zero d e s h = carried_nothing s
  seen (suc f) d e s h = rw h (carried_nothing s)

  pub new : (f d e : ℕ) (s : State) → has s.opened e ≡ false → (record_of m e).included ≡ true
      → carried (visit t m (suc f) d e s.opened) s ≡ carried (along t.count (step t m f d e) (with_event s.opened e)) s
  unfolding visit
  new f d e s h there = rw (h, there)

  -- what a walk from some state has come to, where all relations before the next one are done: past the last one, all of them
  abbrev pub Come : (g : ℕ → ℕ → Visit) (o : ℕ) → State → State → Option ℕ → Type 0
  Come g o s now None = now ≡ carried (along t.count g o) s
  Come g o s now (Some k) = now ≡ carried (along k g o) s

  module _ (f d e o : ℕ) (s now : State) where
    abbrev g : ℕ → ℕ → Visit
    g = step t m f d e

    -- to the next relation that blocks: of those between nothing is made
    come_on : (from : ℕ) (next : Option ℕ) → First (blocks t m e) t.count from next → from ≤ t.count → now ≡ carried (along from g o) s
        → Come g o s now next
    come_on from None first few is =
        is ∙ ap (λ (v : Visit). carried v s) (sym (along_skip g from t.count o few (λ j p a b. rw (first j a b))))
    come_on from (Some k) first few is =
        is ∙ ap (λ (v : Visit). carried v s) (sym (along_skip g from k o first.on (λ j p a b. rw (first.before j a b))))

    pub comes : (next : Option ℕ) → First (blocks t m e) t.count 0 next → now ≡ carried (nothing o) s → Come g o s now next
    unfolding along
    comes next first is = come_on 0 next first (omega arith) is

    -- one that blocks, and on to the next
    pub goes_on : (k : ℕ) (next : Option ℕ) (was : State) → k < t.count → blocks t m e k ≡ true → Come g o s was (Some k)
        → now ≡ carried (led_to k d (visit t m f (suc d) (relation_of t k).right was.opened)) was
        → First (blocks t m e) t.count (suc k) next → Come g o s now next
    unfolding along carried
    goes_on k next was few is come done first =
        come_on (suc k) next first few
        (done
        ∙ ap (λ (v : Visit). carried v was) (rw is)
        ∙ ap (λ (n : State). carried (g k n.opened) n) come
        ∙ carried_joined (along k g o) (g k (along k g o).opened) s)

-- a relation: it is noted, and then its right event is visited
pub led : (k d : ℕ) (v : Visit) (s : State) → carried (led_to k d v) s ≡ carried v (noted (link k d) s)
unfolding carried notes
led k d v s = refl

-- The relation visit notes and hands on; the event visit opens, and goes from one blocking relation to the next; what is left to open falls.
use Rattle.std.proofs.Common.{
  ◌≡◌,
  true,
  false,
  Bool,
  ℕ,
  Some,
  None,
  zero,
  suc,
  ◌+◌,
  ◌<◌,
  ◌≤◌,
  arith,
  sym,
  ap,
  ap₂,
  subst,
  ◌∙◌,
  refl,
  add-one,
  le_refl,
  le_trans,
}
use Rattle.rules.specs.declared.Table.{Table}
use Rattle.rules.specs.declared.Marking.{Marking}
use Rattle.rules.specs.EventSet.{has, size_of, with_event}
use Rattle.rules.specs.Holds.{relation_of, record_of}
use Rattle.rules.specs.Chain.{link, along, visit}
use Rattle.rules.proofs.Laws.Visits.{blocks_right}
use Rattle.chain.specs.Visits.{noted as noted_with, State, state_of, step, carried}
use Rattle.chain.specs.Laws.Notes.{note, noted_keeps, full, carried_nothing, carried_opened}
use Rattle.chain.specs.Laws.Visiting.{size_grows, size_small, seen, new, Come, comes, goes_on, led}
use Rattle.chain.specs.Laws.Filling.{next_told}
use Rattle.chain.proofs.stops.Visits.+visit.Goals as goal
use Rattle.chain.proofs.stops.Visits.+visit.Goals.{relation-then-walk-list, relation-else-walk-list}

-- e was not open, so opening it makes the set larger
grown : (o e opened : ℕ) (was : Bool) → e < 64 → was ≡ has o e → was ≡ false → opened ≡ with_event o e → size_of o < size_of opened
grown o e opened was few asked shut made =
    subst (λ (n : ℕ). size_of o < size_of n) (sym made) (size_grows o e few (sym asked ∙ shut))

-- past the last relation, what is there is the whole visit
ends : (t : Table) (m : Marking) (d e opened : ℕ) (s now : State) → has s.opened e ≡ false → opened ≡ with_event s.opened e
    → size_of s.opened < size_of opened → (record_of m e).included ≡ true
    → ((f : ℕ) → 64 ≤ f + size_of opened
    → Come t m (step t m f d e) opened (record { opened = opened; count = s.count; list = s.list }) now None)
    → (f : ℕ) → 64 ≤ f + size_of s.opened → now ≡ carried (visit t m f d e s.opened) s
ends t m d e opened s now shut made more there come zero h = absurd (omega (arith, more, size_small opened, h))
ends t m d e opened s now shut made more there come (suc f) h =
    let g = step t m f d e in
    come f (omega (arith, h, more))
    ∙ carried_opened (along t.count g opened) opened s
    ∙ ap (λ (o : ℕ). carried (along t.count g o) s) made
    ∙ sym (new t m f d e s shut there)

pub event-returns-then-has_event-clause-visits : goal.event-returns-then-has_event-clause-visits
event-returns-then-has_event-clause-visits n c = λ t m visits there f h.
    sym (seen t m f _ _ (state_of c.args.walk.now c.args.list.now) (sym c.has_event.ensures ∙ c.if-has_event.true))

pub event-loop-next-init : goal.event-loop-next-init
event-loop-next-init n c =
    let s = state_of (record { opened = c.adding-walk.result; count = c.args.walk.now.count }) c.args.list.now in (
      refl,
      le_refl _,
      λ t m visits.
          let first = visits.1.firsts_told c.args.e c.requires.0 in
          (next_told _ _ _ _ first, λ f h. comes t m f c.args.depth c.args.e c.adding-walk.result s s _ first (sym (carried_nothing s))),
    )

pub event-relation-requires : goal.event-relation-requires
event-relation-requires n c =
    let g = grown _ _ _ _ c.requires.0 c.has_event.ensures c.if-has_event.false c.adding-walk.ensures in
    let inv = c.loop-next.invariant in (
      omega (arith, g, inv.1, size_small c.loop-next.walk.opened, c.decreases),
      omega (arith, g, inv.1, c.requires.1),
    )

pub event-loop-next-preserved : goal.event-loop-next-preserved
event-loop-next-preserved n c =
    let inv = c.loop-next.invariant in
    let k = c.in-Some.k in
    let e = c.args.e in
    let o = c.adding-walk.result in
    let s₀ = state_of (record { opened = o; count = c.args.walk.now.count }) c.args.list.now in
    let now = state_of c.loop-next.walk c.loop-next.list in
    let after = c.relation.ensures in (
      after.kept ∙ inv.0,
      le_trans inv.1 after.grows,
      λ t m visits.
          let at = (inv.2 t m visits).0 k c.in-Some.is in
          let first = visits.1.nexts_told e k c.requires.0 (omega arith) at.0 at.1 in (
            next_told _ _ _ _ first,
            λ f h. goes_on t m f c.args.depth e o s₀ _ k _ now at.0 at.1
                (subst (Come t m (step t m f c.args.depth e) o s₀ now) c.in-Some.is ((inv.2 t m visits).1 f h))
                (after.visits t m visits at.0 (blocks_right t m visits.0 e k at.1) f (omega (arith, h, inv.1))) first,
          ),
    )

pub event-returns-clause-grows : goal.event-returns-clause-grows
event-returns-clause-grows n c =
    let g = grown _ _ _ _ c.requires.0 c.has_event.ensures c.if-has_event.false c.adding-walk.ensures in
    omega (arith, g, c.loop-next.invariant.1)

pub event-returns-clause-visits : goal.event-returns-clause-visits
event-returns-clause-visits n c = λ t m visits there.
    let g = grown _ _ _ _ c.requires.0 c.has_event.ensures c.if-has_event.false c.adding-walk.ensures in
    let s₀ = state_of (record { opened = c.adding-walk.result; count = c.args.walk.now.count }) c.args.list.now in
    let now = state_of c.loop-next.walk c.loop-next.list in
    ends t m c.args.depth c.args.e c.adding-walk.result (state_of c.args.walk.now c.args.list.now) now
    (sym c.has_event.ensures ∙ c.if-has_event.false) c.adding-walk.ensures g there
    (λ f h.
    let g = step t m f c.args.depth c.args.e in
    subst (Come t m g c.adding-walk.result s₀ now) c.in_default.is ((c.loop-next.invariant.2 t m visits).1 f h))

pub relation-overflow_add-depth : goal.relation-overflow_add-depth
relation-overflow_add-depth n c = omega (arith, size_small c.args.walk.now.opened, c.requires)

pub relation-returns-clause-visits : goal.relation-returns-clause-visits
relation-returns-clause-visits n c = λ t m visits few there f h.
    let k = c.args.k in
    let d = c.args.depth in
    let w = c.args.walk.now in
    let s = state_of w c.args.list.now in
    let noted = state_of c.if-walk-list.walk c.if-walk-list.list in
    let noted_so : noted ≡ noted_with (link k d) s =
    elim c.if-walk-list.branch [
      | relation-then-walk-list z ↦ ap₂ state_of z.walk-is z.list-is ∙ sym (note (link k d) s z.if-walk-list.true)
      | relation-else-walk-list z ↦ ap₂ state_of z.walk-is z.list-is ∙ sym (full (link k d) s z.if-walk-list.false)
    ] in
    let opened : c.if-walk-list.walk.opened ≡ w.opened = ap (λ (n : State). n.opened) noted_so ∙ noted_keeps (link k d) s in
    let right = visits.1.rights_told k (omega arith) few in
    c.event.ensures.visits t m visits (subst (λ (x : ℕ). (record_of m x).included ≡ true) (sym right) there) f (rw opened h)
    ∙ ap₂ (λ (x o : ℕ). carried (visit t m f (d + 1) x o) noted) right opened
    ∙ ap₂ (λ (n : ℕ) (now : State). carried (visit t m f n (relation_of t k).right w.opened) now) (add-one d) noted_so
    ∙ sym (led k d _ s)

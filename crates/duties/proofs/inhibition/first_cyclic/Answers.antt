-- What is cleared is on no cycle, and no event of the set is reached from its own inhibitors but among those that are left.
use mathlib.Core.Path.{◌≡◌, ◌∙◌, sym}
use mathlib.Core.Bool.{Bool, true}
use Prim.Native.Nat.{ℕ, ◌<◌, ◌^◌}
use Rattle.rules.specs.declared.Table.{Table}
use Rattle.rules.specs.EventSet.{has}
use Rattle.rules.specs.Check.{awaited, on_cycle}
use Rattle.rules.proofs.Laws.Widened.{has_below}
use Rattle.duties.specs.Laws.Cleared.{cleared_off}
use Rattle.duties.specs.Laws.Search.{Searched, searched_but, searched_none, searched_here, searched_on}
use Rattle.duties.proofs.inhibition.first_cyclic.Goals as goal

-- an event that is left is on a cycle if it is reached from its inhibitors
is_cyclic : (t : Table) (set : ℕ) {left : ℕ} → set < 2 ^ t.events → Searched (on_cycle t set) set left → (e : ℕ) → has left e ≡ true
    → {cyclic : Bool} → (e < t.events → cyclic ≡ has (awaited t e) e) → on_cycle t set e ≡ cyclic
unfolding on_cycle
is_cyclic t set fits s e inside told = let there = s.within e inside in rw there (sym (told (has_below t.events set e fits there)))

pub loop-e-init : goal.loop-e-init
unfolding on_cycle
loop-e-init c = λ t of f.
    rw (c.into_iter-e-iterator.ensures.into_iter_gives, c.of-e-items.ensures)
    (searched_but _ c.args.set c.cleared.result _ (λ x h. rw h)
    (λ x h o. rw h (cleared_off c.args.following.now.words c.cleared.ensures t of.good of.followed x (has_below 64 _ x c.ranges.set.fits h) o))
    c.without.ensures)

pub returns-then-cyclic : goal.returns-then-cyclic
returns-then-cyclic c = λ t of f.
    let s = c.loop-e.invariant t of f in
    searched_here s c.in-Some.ensures.steps (is_cyclic t c.args.set f s _ c.in-Some.ensures.steps.inside (c.cyclic.ensures t of) ∙ c.if-cyclic.true)

pub loop-e-preserved : goal.loop-e-preserved
loop-e-preserved c = λ t of f.
    let s = c.loop-e.invariant t of f in
    searched_on s c.in-Some.ensures.steps (is_cyclic t c.args.set f s _ c.in-Some.ensures.steps.inside (c.cyclic.ensures t of) ∙ c.if-cyclic.false)

pub returns : goal.returns
returns c = λ t of f. searched_none (c.loop-e.invariant t of f) c.in-None.ensures.steps

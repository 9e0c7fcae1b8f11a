-- A walk over e's conditions with a time: none of those that were met lets e wait, so whether any does is asked of the rest. Assumes nothing.
use Rattle.std.specs.Prelude.{◌≡◌, refl, Bool, true, false, ◌||◌, cond, List, ℕ, ◌<◌, ◌≤◌, ◌+◌, ◌-◌, ◌%◌, ltb, get_or}
use Rattle.std.proofs.Common.{◌∙◌, arith, lt-ltb}
use Rattle.std.proofs.Math.Path.{ap}
use Rattle.rules.specs.declared.Table.{Table}
use Rattle.rules.specs.Counting.{some}
use Rattle.rules.proofs.Laws.Tests.{or_false}
use Rattle.rules.proofs.Laws.Counting.{some_at, some_none}
use Rattle.rules.specs.Shapes.Good.{GoodTable}
use Rattle.acts.specs.Derived.{last_of, Own}
use Rattle.acts.specs.declared.links.Link.{Link}
use Rattle.acts.specs.Links.{link_in}
use Rattle.acts.specs.Acting.{young_by, is_young, waits_for}
use Rattle.acts.specs.Laws.Linked.{waits_chained}
use Rattle.acts.specs.Laws.Walked.{last_kept, Next, next_last, LinkMet, met_next, met_less}

module _ (t : Table) (e clock included : ℕ) (columns : List ℕ) where
  abbrev waits : ℕ → Bool
  waits n = some n (waits_for t e clock included columns)

  pub record Waiting (n : ℕ) : Type 0 where
    pub next : Next t 1 e n
    pub same : waits t.count ≡ waits n

  waiting_last : (n : ℕ) → n ≤ t.count → waits t.count ≡ waits n → Waiting (last_of t 1 e n)
  unfolding some
  waiting_last n b same = record { next = next_last t 1 e n b; same = same ∙ last_kept t 1 e waits n (λ k l other. rw other (or_false (waits k))) }

  module _ (good : GoodTable t) (rows : List ℕ) (at : ℕ) (links : List ℕ) (own : Own t t.count e rows at links) where
    pub waiting_start : Waiting (get_or rows (at + 9) 0)
    waiting_start = rw own.waits (waiting_last t.count (omega arith) refl)

    module _ (n : ℕ) (waiting : Waiting n) where
      pub waiting_end : n ≡ 0 → waits t.count ≡ false
      waiting_end over = waiting.same ∙ ap waits over ∙ some_none (waits_for t e clock included columns)

      -- one condition more
      module _ (more : n ≡ 0 → ⊥) where
        abbrev link : ℕ
        link = get_or links ((n - 1) % 256) 0

        met : LinkMet t 1 e n link
        met = met_next t 1 e good rows at links own waits_chained n waiting.next more

        said : {b : Bool} → is_young clock included columns link ≡ b → waits_for t e clock included columns met.place ≡ b
        said young = rw (met.own, ← met.right, ← met.time) young

        pub waiting_less : link % 512 < n
        waiting_less = met_less t 1 e met

        pub waiting_here : is_young clock included columns link ≡ true → waits t.count ≡ true
        waiting_here young = some_at (waits_for t e clock included columns) t.count met.place met.exists (said young)

        pub waiting_more : is_young clock included columns link ≡ false → Waiting (link % 512)
        unfolding some
        waiting_more young =
            let k = met.place in
            rw met.next
            (waiting_last k (omega (arith, met.exists))
            (waiting.same ∙ ap waits met.number ∙ ap (λ (b : Bool). waits k || b) (said young) ∙ or_false (waits k)))

        -- the same of the link as it is met, and of what is next then
        pub waiting_met_here : {l : Link} → l ≡ link_in link → young_by clock included columns l.right l.time ≡ true → waits t.count ≡ true
        waiting_met_here is young = waiting_here (rw is at young)

        pub waiting_met : {l : Link} {next : ℕ} → l ≡ link_in link → next ≡ cond (ltb l.before n) l.before 0
            → young_by clock included columns l.right l.time ≡ false → Waiting next
        waiting_met is to young = rw (to, is, lt-ltb (link % 512) n waiting_less) (waiting_more (rw is at young))

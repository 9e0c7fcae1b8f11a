-- The words of one event, of the first i relations.
use mathlib.Core.Path.{◌≡◌, refl, ◌∙◌}
use Prim.Native.Nat.{◌<◌}
use native.Mathlib.Omega.{arith}
use Rattle.rules.specs.Holds.{relation_of}
use Rattle.acts.specs.Laws.Derived.{right_small, time_small, length_noted, length_linked}
use Rattle.acts.specs.Laws.Linked.{own_none, own_more, own_kept}
use Rattle.acts.proofs.table_words.OwnRow.fill.Goals as goal
use Rattle.acts.proofs.table_words.OwnRow.fill.Goals.{then-k-e, else-k-e}

pub loop-i-init : goal.loop-i-init
loop-i-init c =
    let blank = c.requires.blank in
    rw blank.0 (record { own = own_none c.args.t.now c.args.e 0 10 _ (omega arith); ten = refl; all_links = blank.1 })

pub note-requires-clause-right_bound : goal.note-requires-clause-right_bound
note-requires-clause-right_bound c = (right_small _ c.requires.good _ c.loop-i-test.true, time_small _ c.requires.good _ c.loop-i-test.true)

pub loop-i-preserved : goal.loop-i-preserved
loop-i-preserved c =
    let i = c.loop-i.i in
    let t = c.args.t.now in
    let words = c.loop-i.self.words in
    let links = c.loop-i.self.links in
    let now = c.loop-i.invariant in
    let few : i < 256 = omega (arith, c.requires.good.few_relations) in
    elim c.if-k-e.branch [
      | then-k-e w ↦
          rw (w.self-is, w.note.ensures.rows_after, w.note.ensures.links_after) (
          record {
            own = own_more t i c.args.e words 0 links now.own w.if-k-e.true (omega (arith, now.ten)) few (omega (arith, now.all_links, few));
            ten = length_noted words 0 i (relation_of t i) ∙ now.ten;
            all_links = length_linked links words 0 i (relation_of t i) ∙ now.all_links;
          }
          )
      | else-k-e w ↦
          rw w.self-is (
          record {
            own = own_kept t i c.args.e words 0 links now.own w.if-k-e.false words links (λ p m. refl) (λ k m. refl);
            ten = now.ten;
            all_links = now.all_links;
          }
          )
    ]

pub returns : goal.returns
returns c = let all : c.loop-i.i ≡ c.args.t.now.count = omega arith in rw all at c.loop-i.invariant.own

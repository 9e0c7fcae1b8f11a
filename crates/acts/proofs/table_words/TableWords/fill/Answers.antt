-- The words of every event, of the first i relations.
use mathlib.Core.Path.{◌≡◌}
use native.Mathlib.Omega.{arith}
use Rattle.acts.specs.Laws.Derived.{left_small, right_small, time_small}
use Rattle.acts.specs.Laws.Linked.{owned_none, owned_more, owned_derived, owned_linked}
use Rattle.acts.proofs.table_words.TableWords.fill.Goals as goal

pub loop-i-init : goal.loop-i-init
loop-i-init c =
    let blank = c.requires.blank in
    record { headed = blank.2; owned = rw blank.0 (owned_none c.args.t.now _ blank.1) }

pub note-requires-clause-right_bound : goal.note-requires-clause-right_bound
note-requires-clause-right_bound c = (right_small _ c.requires.good _ c.loop-i-test.true, time_small _ c.requires.good _ c.loop-i-test.true)

pub loop-i-preserved : goal.loop-i-preserved
loop-i-preserved c =
    let t = c.args.t.now in
    record {
      headed = c.loop-i.invariant.headed;
      owned = rw (c.note.ensures.rows_after, c.note.ensures.links_after)
          (owned_more t c.loop-i.i _ _ c.loop-i.invariant.owned (left_small t c.requires.good _ c.loop-i-test.true) (omega (arith, c.requires.good.few_relations)));
    }

pub returns : goal.returns
returns c =
    let t = c.args.t.now in
    let all : c.loop-i.i ≡ t.count = omega arith in
    let owned = rw all at c.loop-i.invariant.owned in
    record {
      rows = record { good = c.requires.good; derived = owned_derived t t.count _ _ owned; headed = c.loop-i.invariant.headed };
      linked = owned_linked t t.count _ _ owned (left_small t c.requires.good);
    }

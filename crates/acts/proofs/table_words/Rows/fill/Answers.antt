-- The rows of the first i relations.
use mathlib.Core.Path.{◌≡◌}
use native.Mathlib.Omega.{arith}
use Rattle.acts.specs.Laws.Derived.{left_small, right_small, derived_none, unlinked_none, derived_more, unlinked_more}
use Rattle.acts.proofs.table_words.Rows.fill.Goals as goal

pub loop-i-init : goal.loop-i-init
loop-i-init c =
    let blank = c.requires.blank in
    rw blank.0 (record { headed = blank.1; derived = derived_none c.args.t.now; unlinked = unlinked_none })

pub note-requires : goal.note-requires
note-requires c = (left_small _ c.requires.good _ c.loop-i-test.true, right_small _ c.requires.good _ c.loop-i-test.true)

pub loop-i-preserved : goal.loop-i-preserved
loop-i-preserved c =
    let t = c.args.t.now in
    let i = c.loop-i.i in
    let small = left_small t c.requires.good i c.loop-i-test.true in
    let now = c.loop-i.invariant in
    rw (c.note.ensures.words, c.note.ensures.head) (
    record {
      headed = now.headed;
      derived = derived_more t i small _ now.derived;
      unlinked = unlinked_more t i small _ now.derived now.unlinked;
    }
    )

pub returns-clause-rows : goal.returns-clause-rows
returns-clause-rows c =
    let all : c.loop-i.i ≡ c.args.t.now.count = omega arith in
    record { good = c.requires.good; derived = rw all at c.loop-i.invariant.derived; headed = c.loop-i.invariant.headed }

pub returns-clause-unlinked : goal.returns-clause-unlinked
returns-clause-unlinked c = c.loop-i.invariant.unlinked

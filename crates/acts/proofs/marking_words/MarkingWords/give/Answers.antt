-- The first e places are read, the rest are as they were.
use mathlib.Core.Path.{◌≡◌}
use Prim.Native.Nat.{◌<◌}
use native.Mathlib.Omega.{arith}
use lib.ListN.{length}
use Rattle.rules.specs.Holds.{empty_record}
use Rattle.acts.specs.Laws.Laid.{read_none, read_more}
use Rattle.acts.proofs.marking_words.MarkingWords.give.Goals as goal

pub loop-e-init : goal.loop-e-init
loop-e-init c = read_none _ _

pub loop-e-preserved : goal.loop-e-preserved
loop-e-preserved c =
    let small : c.loop-e.e < length c.args.records.now = omega arith in
    rw (c.record_at.ensures, c.loop-e.invariant) (read_more empty_record _ _ c.loop-e.e small)

pub returns : goal.returns
returns c = let all : c.loop-e.e ≡ c.args.n = omega arith in rw all at c.loop-e.invariant

-- Excluded; enabled, where none would block; the lowest relation that blocks; or enabled, with the lowest that would.
use native.Mathlib.Omega.{arith}
use Rattle.std.proofs.Math.Nat.{le_refl}
use borrow.Author.Tests.{lt-ltb, le-ltb}
use Rattle.rules.specs.HoldUp.{hold_up_of}
use Rattle.rules.proofs.Laws.Counting.{lowest_zero}
use Rattle.acts.specs.Laws.Blocking.{lowest_now, lowest_returned, none_before, none_blocks}
use Rattle.acts.proofs.holding.holding.Goals as goal

pub returns-then-not-m-e : goal.returns-then-not-m-e
unfolding hold_up_of
returns-then-not-m-e c = simp c.if-not-m-e.true

pub first_blocking-requires-clause-from_le_count :
    goal.first_blocking-requires-clause-from_le_count
first_blocking-requires-clause-from_le_count c = (omega arith, lowest_zero _)

pub first_blocking-requires-in-Some-clause-from_le_count :
    goal.first_blocking-requires-in-Some-clause-from_le_count
first_blocking-requires-in-Some-clause-from_le_count c = let u = c.in-Some.ensures in (omega (arith, u.0), none_before _ _ _ u.1)

pub returns-in-None : goal.returns-in-None
unfolding hold_up_of
returns-in-None c =
    let u = c.in-None.ensures in
    simp (c.if-not-m-e.false, none_blocks _ _ _ u (omega arith), ← lowest_returned, ← u, le-ltb _ _ (le_refl c.args.t.now.count))

pub returns-in-None-first_blocking : goal.returns-in-None-first_blocking
unfolding hold_up_of
returns-in-None-first_blocking c =
    let u = c.in-Some.ensures in
    let f = c.in-None-first_blocking.ensures in
    simp (c.if-not-m-e.false, ← lowest_now, ← lowest_returned, ← f, ← u.1, le-ltb _ _ (le_refl c.args.t.now.count), lt-ltb _ _ u.0)

pub returns-in-Some-first_blocking : goal.returns-in-Some-first_blocking
unfolding hold_up_of
returns-in-Some-first_blocking c =
    let f = c.in-Some-first_blocking.ensures in
    simp (c.if-not-m-e.false, ← lowest_now, ← f.1, lt-ltb _ _ f.0)

-- Where every event would have room at every tick, what is caused has; else it is counted.
use mathlib.Core.Path.{◌∙◌, sym, ap}
use mathlib.Core.List.{[]}
use Prim.Native.Nat.{ℕ}
use native.Mathlib.Omega.{arith}
use lib.Dec.{leb}
use lib.ListN.{length}
use borrow.Author.Tests.{le-leb}
use Rattle.rules.specs.Sleep.{slept_caused}
use Rattle.rules.proofs.Laws.Sleep.{caused_few}
use Rattle.sleep.proofs.passing.has_room.Goals as goal

pub returns-then-ticks-room : goal.returns-then-ticks-room
returns-then-ticks-room c = λ t tail m w now.
    let a = c.args in
    sym (le-leb (length (slept_caused t m a.ticks)) a.room (omega (arith, caused_few t w.rows.good m a.ticks)))

pub returns : goal.returns
returns c = λ t tail m w now.
    let a = c.args in
    ap (λ (n : ℕ). leb n a.room)
    ((c.pass.ensures.passed t tail m [] w now).counted ∙ ap (λ (n : ℕ). length (slept_caused t m n)) c.pass.ensures.clock)

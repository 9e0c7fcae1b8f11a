-- What is needed is taken.
use Rattle.duties.specs.Laws.Taking.{needed_small, taken_is, guarded_is, none_taken}
use Rattle.duties.proofs.guard.guarded.Goals as goal

pub returns-then-needed-eq0-clause-taken : goal.returns-then-needed-eq0-clause-taken
returns-then-needed-eq0-clause-taken c = λ t tail m of room stands.
    let is-needed = c.needed-needed.ensures t tail m of.rows stands in
    taken_is t tail m c.args.caused.now is-needed c.args.marking.now _ _
    (none_taken t tail m c.args.caused.now is-needed c.args.marking.now c.if-needed-eq0.true stands)

pub returns-then-needed-eq0-clause-stands : goal.returns-then-needed-eq0-clause-stands
returns-then-needed-eq0-clause-stands c = λ t tail m of room stands.
    let is-needed = c.needed-needed.ensures t tail m of.rows stands in
    guarded_is t tail m c.args.caused.now is-needed c.args.marking.now _ _
    (none_taken t tail m c.args.caused.now is-needed c.args.marking.now c.if-needed-eq0.true stands)

pub returns-clause-taken : goal.returns-clause-taken
returns-clause-taken c = λ t tail m of room stands.
    let is-needed = c.needed-needed.ensures t tail m of.rows stands in
    taken_is t tail m c.args.caused.now is-needed c.take_all.new.marking _ _
    (c.take_all.ensures.stand t tail m of (needed_small t tail c.args.marking.now m of.rows.good stands is-needed) room stands)

pub returns-clause-stands : goal.returns-clause-stands
returns-clause-stands c = λ t tail m of room stands.
    let is-needed = c.needed-needed.ensures t tail m of.rows stands in
    guarded_is t tail m c.args.caused.now is-needed c.take_all.new.marking _ _
    (c.take_all.ensures.stand t tail m of (needed_small t tail c.args.marking.now m of.rows.good stands is-needed) room stands)

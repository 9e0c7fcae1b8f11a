-- The header's two counts stand in its first two bytes.
use Rattle.std.proofs.Common.{arith, ◌<◌, get_or}
use Rattle.engine.specs.Laws.Heard.{header_is}
use Rattle.engine.proofs.hearing.table_part.Goals as goal

pub returns : goal.returns
returns c =
    let bytes = c.args.input.now in
    let first : get_or bytes 0 0 < 256 = omega (arith, c.type_inv.input 0) in
    let second : get_or bytes 1 0 < 256 = omega (arith, c.type_inv.input 1) in
    rw (← header_is bytes first second) c.min.ensures

-- The engine's promise says what was written; a law of it, that this is a byte or more. Assumes nothing.
use Rattle.std.proofs.Common.{rules, refl}
use Rattle.engine.specs.Laws.Heard.{call_writes}
use Rattle.station.proofs.answered.Goals as goal

pub returns : goal.returns
returns c =
    let told = c.station.ensures in
    let written = call_writes c.args.input.now c.args.beyond c.args.output.now (refl, told.output) c.requires.room c.requires.after in
    search rules

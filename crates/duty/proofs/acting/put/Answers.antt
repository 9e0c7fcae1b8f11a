-- A marking that fills the buffer is written whole.
use Rattle.std.proofs.Common.{◌∙◌}
use Rattle.duty.specs.Laws.Kept.{filled}
use Rattle.duty.proofs.acting.put.Goals as goal

pub returns : goal.returns
returns c = c.write_marking.ensures.bytes ∙ filled c.args.after.now c.args.marking.now c.requires

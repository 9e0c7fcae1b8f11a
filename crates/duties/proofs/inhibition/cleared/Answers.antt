-- Nothing is cleared to begin with, and each pass keeps what the one before cleared.
use Rattle.duties.specs.Laws.Cleared.{cleared_none}
use Rattle.duties.proofs.inhibition.cleared.Goals as goal

pub cleared_down-down-requires : goal.cleared_down-down-requires
cleared_down-down-requires c = cleared_none c.args.following.now.words

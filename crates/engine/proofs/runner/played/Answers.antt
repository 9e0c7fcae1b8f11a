-- Laid out once, played, and given back.
use Rattle.acts.specs.Laws.Judging.{unused, table_good, few_records}
use Rattle.engine.specs.Laws.Judging.{stands_laid, stands_given}
use Rattle.engine.proofs.runner.played.Goals as goal

pub of-table-requires : goal.of-table-requires
of-table-requires g c = table_good c.args.t.now c.args.m.now c.requires.judged

pub of-marking-requires : goal.of-marking-requires
of-marking-requires g c = few_records c.args.t.now c.args.m.now c.requires.judged

pub marking-requires : goal.marking-requires
marking-requires g c = few_records c.args.t.now c.args.m.now c.requires.judged

pub returns : goal.returns
returns g c steps same told =
    let stands = stands_laid c.args.t.now c.args.m.now c.requires.judged c.of-marking.result c.of-marking.ensures.stand in
    let last = c.play.ensures c.args.t.now (unused c.args.m.now) c.args.m.now steps c.requires.judged c.of-table.ensures stands same told in
    (stands_given c.args.t.now c.args.m.now c.requires.judged c.play.new.marking c.marking.ensures last.0, last.1)

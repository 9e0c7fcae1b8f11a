-- `image::table::put_table` meets its contract: header, classes and relations, one put behind the other, are the table's image.
use Rattle.std.proofs.Common.{ap, ◌∙◌, arith, ℕ, List, ◌++◌, drop, length-take-le}
use Rattle.rules.specs.Fields.{bytes_of}
use Rattle.rules.proofs.Laws.Judge.{good_table}
use Rattle.image.specs.Laws.Parts.{table_put}
use Rattle.image.proofs.table.put_table.Goals as goal

pub invariant_of-header : goal.invariant_of-header
invariant_of-header c =
    let good = good_table c.args.t.now c.requires.0 in
    record { few_events = good.few_events; few_relations = good.few_relations }

pub returns : goal.returns
returns c =
    let buffer = c.args.buffer.now in
    let header = c.put_word.ensures ∙ ap (λ (n : ℕ). bytes_of n c.word.result) (length-take-le 4 buffer (omega arith)) in
    table_put c.args.t.now buffer c.word.ensures (ap (λ (bytes : List ℕ). bytes ++ drop 4 buffer) header) c.put_classes.ensures c.put_relations.ensures

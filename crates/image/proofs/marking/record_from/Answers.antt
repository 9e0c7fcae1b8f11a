-- `image::marking::record_from` meets its contract: the fields before the count are parts of one number, and the count is the next.
use Rattle.std.proofs.Common.{◌∙◌}
use Rattle.image.specs.Laws.Packed.{count_fits_word, record_by_words}
use Rattle.image.proofs.marking.record_from.Goals as goal

pub overflow_cast-word : goal.overflow_cast-word
overflow_cast-word c = record { fits = count_fits_word c.args.bytes.now c.requires c.split_at.ensures.back c.word-2.ensures }

pub returns : goal.returns
returns c =
    c.record_of.ensures
    ∙ record_by_words c.args.bytes.now c.requires c.split_at.ensures.back c.word-2.ensures c.split_at.ensures.front c.word.ensures

-- `image::marking::put_record` meets its contract: the bytes before the count and those of the count behind them are put as one.
use Rattle.std.proofs.Common.{◌≡◌, refl, ap₂, ◌∙◌, arith, ℕ, List, ◌++◌, length}
use Rattle.rules.specs.Fields.{bytes_of}
use Rattle.image.specs.Laws.Packed.{room, record_bytes_lem}
use Rattle.image.proofs.marking.put_record.Goals as goal

pub returns : goal.returns
returns c =
    let split = c.split_at_mut-state in
    let behind : length split.result.1.now ≡ 4 = omega (arith, split.ensures.back_len) in
    ap₂ (λ (state count : List ℕ). state ++ count)
    (c.put_word.ensures ∙ ap₂ bytes_of split.ensures.front_len c.word_of.ensures)
    (c.put_word-2.ensures ∙ rw behind refl)
    ∙ record_bytes_lem c.args.r.now (room c.args.r.now c.requires.0)

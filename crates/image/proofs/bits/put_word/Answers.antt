-- `image::bits::put_word` meets its contract: what is copied is the last bytes of the word's eight.
use Rattle.std.proofs.Common.{ap, ◌∙◌, ℕ, List, ◌-◌, length, take, drop}
use Rattle.image.specs.Laws.Bytes.{last_of_word}
use Rattle.image.proofs.bits.put_word.Goals as goal

pub returns : goal.returns
returns c =
    let n = length c.args.bytes.now in
    c.copy_from_slice.ensures.after
    ∙ ap (λ (eight : List ℕ). take (8 - (8 - n)) (drop (8 - n) eight)) c.to_be_bytes.ensures
    ∙ last_of_word n c.args.v c.requires

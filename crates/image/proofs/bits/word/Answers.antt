-- `image::bits::word` meets its contract: the bytes are the last of eight, and the others 0.
use Rattle.std.proofs.Common.{◌≡◌, refl, ap, ◌∙◌, ℕ, List, ◌-◌, length, replicate, w64}
use borrow.Rule.Slice.PartMut.{put_mid}
use Rattle.std.specs.Int.{from_be_bytes}
use Rattle.image.specs.Laws.Bytes.{word_of_last}
use Rattle.image.proofs.bits.word.Goals as goal

pub returns : goal.returns
returns c =
    let bytes = c.args.bytes.now in
    let n = length bytes in
    let v = c.from_be_bytes.result in
    let read : v ≡ from_be_bytes w64 (put_mid (8 - n) (8 - (8 - n)) (replicate 8 0) c.copy_from_slice.new.self) = c.from_be_bytes.ensures in
    let last = ap (λ (put : List ℕ). from_be_bytes w64 (put_mid (8 - n) (8 - (8 - n)) (replicate 8 0) put)) c.copy_from_slice.ensures.after in
    word_of_last n bytes refl c.requires (λ i. (c.type_inv.bytes i).fits) c.from_be_bytes.type_inv (read ∙ last)

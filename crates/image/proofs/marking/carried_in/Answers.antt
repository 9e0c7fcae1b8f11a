-- `image::marking::carried_in` meets its contract: after e turns the first e records are carried over, and the places past them are empty.
use Rattle.std.proofs.Common.{◌≡◌, ap, ◌∙◌, arith, ℕ, ◌*◌, ◌/◌, ◌^◌}
use Rattle.rules.specs.Holds.{most_events, empty_record}
use Rattle.rules.specs.Carrying.{old_record_bytes, old_record_bit, carried, carried_at}
use Rattle.rules.proofs.Laws.Counting.{filled_none, filled_more}
use Rattle.image.specs.Packed.{record_of_word}
use Rattle.image.specs.Laws.Packed.{carried_parts}
use Rattle.image.specs.Laws.Slices.{word_from_to}
use Rattle.image.proofs.marking.carried_in.Goals as goal

pub loop-e-init : goal.loop-e-init
loop-e-init c = filled_none _ empty_record most_events

pub loop-e-preserved : goal.loop-e-preserved
loop-e-preserved c =
    let old = c.args.old.now in
    let e = c.loop-e.e in
    let word = c.word-w.ensures ∙ word_from_to old (old_record_bytes * e) 8 (omega arith) in
    let read : c.record_of.result ≡ carried_at old (old_record_bit e) =
    c.record_of.ensures ∙ ap (λ (w : ℕ). record_of_word w (w / 2 ^ 63)) word ∙ carried_parts old (old_record_bit e) in
    rw (c.loop-e.invariant, read) (filled_more (λ e. carried_at old (old_record_bit e)) empty_record most_events e (omega arith))

pub returns : goal.returns
unfolding carried
returns c =
    let all : c.loop-e.e ≡ c.args.events = omega arith in
    rw (c.loop-e.invariant, all)

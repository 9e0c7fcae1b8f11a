-- By the verdict that the words come to, then by the room; what is granted is done in the words.
-- Every test stands before the first store.
use Rattle.std.proofs.Common.{◌≡◌, ◌∙◌, ℕ, [], Err, drop, rules, refl, sym, subst}
use Rattle.rules.specs.declared.verdict.CheckError.TheVariants.{Rejected}
use Rattle.rules.specs.Sleep.{slept}
use Rattle.acts.specs.Stands.{Stands}
use Rattle.sleep.specs.Laws.Passing.{passing_begun, passing_until}
use Rattle.sleep.specs.Laws.Answered.{rejected, short, whole}
use Rattle.sleep.proofs.slept.by_words.Goals as goal

pub returns-in_err-verdict : goal.returns-in_err-verdict
returns-in_err-verdict c = λ m d stand.
    let a = c.args in
    let is : c.from_residual.result ≡ Err (Rejected c.in_err-verdict.field-0.0) = search rules in
    let told = c.found.ensures a.t.now _ m c.requires.words.rows stand in
    let ends = rejected _ m _ a.list.now d c.requires.start.1 (sym told ∙ sym c.in_err-verdict.ensures) in
    rw is (record { answer = ends.0; listed = ends.1 })

pub returns-then-not-has_room : goal.returns-then-not-has_room
returns-then-not-has_room c = λ m d stand.
    let a = c.args in
    let told = c.found.ensures a.t.now _ m c.requires.words.rows stand in
    let room = c.has_room.ensures _ _ _ c.requires.words (passing_begun a.marking.now [] c.requires.start.0 stand) in
    let ends = short _ m _ a.list.now d c.requires.start.1 (sym told ∙ sym c.in_ok-verdict.ensures) (sym room ∙ c.if-not-has_room.true) in record {
      answer = ends.0;
      listed = ends.1;
    }

pub returns : goal.returns
returns c = λ m d stand.
    let a = c.args in
    let told = c.found.ensures a.t.now _ m c.requires.words.rows stand in
    let room = c.has_room.ensures _ _ _ c.requires.words (passing_begun a.marking.now [] c.requires.start.0 stand) in
    let end = c.pass.ensures.passed _ _ _ a.list.now c.requires.words (passing_begun a.marking.now a.list.now c.requires.start.0 stand) in
    let passed = passing_until c.pass.ensures.clock end in
    let ends = whole _ m _ a.list.now d c.requires.start.1 (sym told ∙ sym c.in_ok-verdict.ensures)
    (sym room ∙ c.if-not-has_room.false) passed.counted refl passed.listed in record {
      stand = subst (λ (k : ℕ). Stands a.t.now.events (drop m.events m.records) c.pass.new.marking.clock c.pass.new.marking.sets c.pass.new.marking.columns (slept a.t.now m k))
          c.pass.ensures.clock end.stands;
      answer = ends.0;
      listed = ends.1;
    }

-- Judged first, then the event, then the room: the first that refuses has the rules' number, and leaves the list.
use Rattle.std.proofs.Common.{◌≡◌, ◌∙◌, ℕ, Err, rules, sym, ap}
use Rattle.rules.specs.Results.{as_chain}
use Rattle.rules.proofs.Laws.Judge.{good}
use Rattle.rules.proofs.Laws.Granted.{event_exists}
use Rattle.chain.specs.Laws.Answered.{unjudged, no_event, no_room, granted}
use Rattle.chain.proofs.chain.Goals as goal

pub returns-in_err-judge : goal.returns-in_err-judge
returns-in_err-judge c =
    let a = c.args in
    let told = unjudged a.t.now a.m.now a.event a.list.now c.in_err-judge.field-0.0 c.in_err-judge.ensures in
    let is : c.from_residual.result ≡ Err c.in_err-judge.field-0.0 = search rules in record {
      answer = ap as_chain is ∙ told.0;
      list = told.1;
    }

pub returns-in_err-exists : goal.returns-in_err-exists
returns-in_err-exists c =
    let a = c.args in
    let told = no_event a.t.now a.m.now a.event a.list.now (sym c.in_ok-judge.ensures) c.in_err-exists.field-0.0 c.in_err-exists.ensures in
    let is : c.from_residual-in_err-exists.result ≡ Err c.in_err-exists.field-0.0 = search rules in record {
      answer = ap as_chain is ∙ told.0;
      list = told.1;
    }

pub returns-then-list-lt-MOST_RELATIONS : goal.returns-then-list-lt-MOST_RELATIONS
returns-then-list-lt-MOST_RELATIONS c =
    let a = c.args in
    let told = no_room a.t.now a.m.now a.event a.list.now (sym c.in_ok-judge.ensures) (sym c.in_ok-exists.ensures)
    c.if-list-lt-MOST_RELATIONS.true in record {
      answer = told.0;
      list = told.1;
    }

pub listed-requires-clause-good : goal.listed-requires-clause-good
listed-requires-clause-good c =
    (good c.args.t.now c.args.m.now (sym c.in_ok-judge.ensures), event_exists c.args.t.now c.args.event (sym c.in_ok-exists.ensures))

pub returns : goal.returns
returns c =
    let a = c.args in
    let told = granted a.t.now a.m.now a.event a.list.now (sym c.in_ok-judge.ensures) (sym c.in_ok-exists.ensures)
    c.if-list-lt-MOST_RELATIONS.false in record {
      answer = ap (λ (n : ℕ). record { number = 0; count = n }) c.listed.ensures.count ∙ told.0;
      list = c.listed.ensures.list ∙ told.1;
    }

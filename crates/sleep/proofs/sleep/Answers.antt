-- Judged first, then the limit; the rest is done by words, and the marking that they then stand for is given back.
use Rattle.std.proofs.Common.{◌≡◌, ◌∙◌, Err, rules, sym, ap}
use Rattle.rules.specs.declared.verdict.CheckError.TheVariants.{Refused}
use Rattle.rules.specs.declared.Marking.{Marking}
use Rattle.rules.specs.Results.{as_slept}
use Rattle.rules.proofs.Laws.Results.{refused_number}
use Rattle.acts.specs.Laws.Judging.{few_records, table_good, given_back}
use Rattle.sleep.specs.Laws.Passing.{stands_laid}
use Rattle.sleep.specs.Laws.Answered.{unjudged, too_many}
use Rattle.sleep.proofs.sleep.Goals as goal

pub returns-in_err-judge : goal.returns-in_err-judge
returns-in_err-judge c =
    let is : c.from_residual.result ≡ Err (Refused c.in_err-judge.field-0.0) = search rules in
    let ends = unjudged _ _ _ _ c.in_err-judge.ensures (refused_number c.in_err-judge.field-0.0) in record {
      answer = ap (as_slept c.args.m.now) is ∙ ends.0;
      list = ends.1;
    }

pub returns-then-ticks-gt-MOST_TICKS : goal.returns-then-ticks-gt-MOST_TICKS
returns-then-ticks-gt-MOST_TICKS c =
    let ends = too_many _ _ _ _ (sym c.in_ok-judge.ensures) c.if-ticks-gt-MOST_TICKS.true in record {
      answer = ends.0;
      list = ends.1;
    }

pub of-table-requires : goal.of-table-requires
of-table-requires c = table_good _ _ (sym c.in_ok-judge.ensures)

pub of-marking-requires : goal.of-marking-requires
of-marking-requires c = few_records _ _ (sym c.in_ok-judge.ensures)

pub by_words-requires : goal.by_words-requires
by_words-requires c = record {
  start = (c.of-marking.ensures.clock, c.if-ticks-gt-MOST_TICKS.false);
  words = c.of-table.ensures;
}

pub returns-in_err-count : goal.returns-in_err-count
returns-in_err-count c =
    let d = sym c.in_ok-judge.ensures in
    let laid = c.of-marking.ensures in
    let ended = c.in_err-count.ensures c.args.m.now d (stands_laid _ _ d c.of-marking.result laid.clock laid.stand) in
    let is : c.from_residual-in_err-count.result ≡ Err c.in_err-count.field-0.0 = search rules in record {
      answer = ap (as_slept c.args.m.now) is ∙ ended.answer;
      list = ended.listed;
    }

pub marking-requires : goal.marking-requires
marking-requires c = few_records _ _ (sym c.in_ok-judge.ensures)

pub returns : goal.returns
returns c =
    let d = sym c.in_ok-judge.ensures in
    let laid = c.of-marking.ensures in
    let done = c.in_ok-count.ensures c.args.m.now d (stands_laid _ _ d c.of-marking.result laid.clock laid.stand) in
    let given = given_back _ _ d _ _ _ c.marking.ensures done.stand in record {
      answer = ap (λ (m : Marking). record { number = 0; reason = 0; place = 0; count = c.in_ok-count.count; marking = m }) given ∙ done.answer;
      list = done.listed;
    }

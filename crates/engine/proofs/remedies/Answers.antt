-- Which list, how long a start and which number, test by test as the law of the answer goes. Each list is tried in words of its own. Assumes
-- nothing.
use Rattle.std.proofs.Common.{rules, ◌≡◌, ap, sym, ◌∙◌, Err}
use Rattle.rules.specs.Results.{number_of}
use Rattle.rules.proofs.Laws.Remedy.{remedy_judged, remedy_first_long, remedy_second_long, remedy_first, remedy_second, remedy_none}
use Rattle.acts.specs.Laws.Judging.{unused, table_good, few_records}
use Rattle.rules.proofs.Laws.Results.{refused_number}
use Rattle.engine.specs.Laws.Judging.{stands_laid}
use Rattle.engine.proofs.remedies.Goals as goal
use Rattle.engine.proofs.remedies.Goals.{
  then-preferred-gt-LONGEST_LIST-via-then-preferred-gt-LONGEST_LIST,
  then-preferred-gt-LONGEST_LIST-via-else-preferred-gt-LONGEST_LIST+then-fallback-gt-LONGEST_LIST,
}

pub returns-in_err-judge-clause-number : goal.returns-in_err-judge-clause-number
returns-in_err-judge-clause-number c =
    let is : c.from_residual.result ≡ Err c.in_err-judge.field-0.0 = search rules in
    let a = c.args in
    let e = remedy_judged a.t.now a.m.now a.preferred.now a.fallback.now c.in_err-judge.ensures (refused_number c.in_err-judge.field-0.0) in
    ap number_of is ∙ rw e

pub returns-then-preferred-gt-LONGEST_LIST-clause-number : goal.returns-then-preferred-gt-LONGEST_LIST-clause-number
returns-then-preferred-gt-LONGEST_LIST-clause-number c =
    let a = c.args in
    elim c.then-preferred-gt-LONGEST_LIST.branch [
      | then-preferred-gt-LONGEST_LIST-via-then-preferred-gt-LONGEST_LIST w ↦
          rw (remedy_first_long a.t.now a.m.now a.preferred.now a.fallback.now (sym c.in_ok-judge.ensures) w.if-preferred-gt-LONGEST_LIST.true)
      | then-preferred-gt-LONGEST_LIST-via-else-preferred-gt-LONGEST_LIST+then-fallback-gt-LONGEST_LIST w ↦
          rw (remedy_second_long a.t.now a.m.now a.preferred.now a.fallback.now (sym c.in_ok-judge.ensures) w.if-fallback-gt-LONGEST_LIST.true)
    ]

pub of-table-requires : goal.of-table-requires
of-table-requires c = table_good c.args.t.now c.args.m.now (sym c.in_ok-judge.ensures)

pub of-marking-requires : goal.of-marking-requires
of-marking-requires c = few_records c.args.t.now c.args.m.now (sym c.in_ok-judge.ensures)

pub returns-in-Some : goal.returns-in-Some
returns-in-Some c =
    let a = c.args in
    let done = sym c.in_ok-judge.ensures in
    let found = c.in-Some.ensures.found a.t.now (unused a.m.now) a.m.now done c.of-table.ensures (stands_laid a.t.now a.m.now done c.of-marking.result c.of-marking.ensures.stand) in
    let e =
    remedy_first a.t.now a.m.now a.preferred.now a.fallback.now done c.if-preferred-gt-LONGEST_LIST.false c.if-fallback-gt-LONGEST_LIST.false found.0 in record {
      number = rw e;
      fallback = rw e;
      stretch = rw e found.1;
      own = rw e c.in-Some.ensures.own;
    }

pub returns-in-Some-discharging : goal.returns-in-Some-discharging
returns-in-Some-discharging c =
    let a = c.args in
    let done = sym c.in_ok-judge.ensures in
    let words = c.of-table.ensures in
    let stands = stands_laid a.t.now a.m.now done c.of-marking.result c.of-marking.ensures.stand in
    let none = c.in_default.ensures.none a.t.now (unused a.m.now) a.m.now done words stands in
    let found = c.in-Some-discharging.ensures.found a.t.now (unused a.m.now) a.m.now done words stands in
    let e =
    remedy_second a.t.now a.m.now a.preferred.now a.fallback.now done c.if-preferred-gt-LONGEST_LIST.false c.if-fallback-gt-LONGEST_LIST.false
    none found.0 in record {
      number = rw e;
      fallback = rw e;
      stretch = rw e found.1;
      own = rw e c.in-Some-discharging.ensures.own;
    }

pub returns-in-None-clause-number : goal.returns-in-None-clause-number
returns-in-None-clause-number c =
    let a = c.args in
    let done = sym c.in_ok-judge.ensures in
    let words = c.of-table.ensures in
    let stands = stands_laid a.t.now a.m.now done c.of-marking.result c.of-marking.ensures.stand in
    let first = c.in_default.ensures.none a.t.now (unused a.m.now) a.m.now done words stands in
    let second = c.in-None.ensures.none a.t.now (unused a.m.now) a.m.now done words stands in
    rw (remedy_none a.t.now a.m.now a.preferred.now a.fallback.now done c.if-preferred-gt-LONGEST_LIST.false c.if-fallback-gt-LONGEST_LIST.false
    first second)

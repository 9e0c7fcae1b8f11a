-- Judged first, then the ticks until the nearest date, by words.
use Rattle.std.proofs.Common.{◌≡◌, ◌∙◌, Err, rules, ℕ, ap, sym, refl, arith}
use borrow.Author.Tests.{ne_eqb}
use Rattle.rules.specs.declared.Table.{Table}
use Rattle.rules.specs.declared.Marking.{Marking}
use Rattle.rules.specs.declared.refusal.Refusal.{Refusal}
use Rattle.rules.specs.Judge.{judged}
use Rattle.rules.specs.Quiet.{quiet_answer}
use Rattle.rules.specs.Results.{refusal_number, as_ticks}
use Rattle.rules.proofs.Laws.Results.{refused_number}
use Rattle.acts.specs.Laws.Judging.{table_good, few_records, some_events}
use Rattle.sleep.specs.Laws.Passing.{stands_laid}
use Rattle.sleep.proofs.quiet.Goals as goal

refused : (t : Table) (m : Marking) (refusal : Refusal) → refusal_number refusal ≡ judged t m → as_ticks (Err refusal) ≡ quiet_answer t m
unfolding quiet_answer
refused t m refusal same = rw (← same, ne_eqb _ 0 (refused_number refusal)) refl

pub returns-in_err-judge : goal.returns-in_err-judge
returns-in_err-judge c =
    let is : c.from_residual.result ≡ Err c.in_err-judge.field-0.0 = search rules in
    ap as_ticks is ∙ refused _ _ _ c.in_err-judge.ensures

pub of-marking-requires : goal.of-marking-requires
of-marking-requires c = few_records _ _ (sym c.in_ok-judge.ensures)

pub quiet-requires : goal.quiet-requires
quiet-requires c =
    let d = sym c.in_ok-judge.ensures in
    (some_events _ _ d, (table_good _ _ d).few_events, omega arith)

pub returns : goal.returns
unfolding quiet_answer
returns c =
    let d = sym c.in_ok-judge.ensures in
    let laid = c.of-marking.ensures in
    rw d (ap (λ (n : ℕ). record { number = 0; ticks = n })
    (c.quiet.ensures.value _ _ (stands_laid c.args.t.now c.args.m.now d c.of-marking.result laid.clock laid.stand)))

-- The promise of each public call leaves one answer: two answers that both meet it are equal, where the arguments are alike: a table and a
-- marking that hold the same, wherever they lie, and the same numbers. It is stated about the contract itself, as the check reads it. Assumes
-- nothing.
use mathlib.Core.Path.{◌≡◌, sym, ◌∙◌}
use Prim.Native.Nat.{ℕ}
use Rattle.std.specs.Prelude.{Bool, Result}
use Rattle.rules.specs.declared.Marking.{Marking}
use Rattle.rules.specs.declared.refusal.Refusal.{Refusal}
use Rattle.rules.specs.declared.verdict.CheckError.{CheckError}
use Rattle.rules.specs.declared.answers.Closure.{Closure}
use Rattle.rules.specs.declared.answers.Margin.{Margin}
use Rattle.rules.specs.declared.answers.HoldUp.{HoldUp}
use Rattle.rules.specs.declared.answers.Guarded.{Guarded}
use Rattle.rules.proofs.Laws.Results.{enabled_once, set_once, marking_once, margin_once, hold_up_once, closure_once, check_once, guarded_once}
use Rattle.engine.proofs.size.Kinds as size-kinds
use Rattle.engine.proofs.size.Reads as size-reads
use Rattle.engine.proofs.lowest.Kinds as lowest-kinds
use Rattle.engine.proofs.lowest.Reads as lowest-reads
use Rattle.engine.proofs.enabled.Kinds as enabled-kinds
use Rattle.engine.proofs.enabled.Reads as enabled-reads
use Rattle.engine.proofs.due.Kinds as due-kinds
use Rattle.engine.proofs.due.Reads as due-reads
use Rattle.engine.proofs.happen.Kinds as happen-kinds
use Rattle.engine.proofs.happen.Reads as happen-reads
use Rattle.engine.proofs.plain_tick.Kinds as plain-tick-kinds
use Rattle.engine.proofs.plain_tick.Reads as plain-tick-reads
use Rattle.engine.proofs.margin.Kinds as margin-kinds
use Rattle.engine.proofs.margin.Reads as margin-reads
use Rattle.engine.proofs.hold_up.Kinds as hold-up-kinds
use Rattle.engine.proofs.hold_up.Reads as hold-up-reads
use Rattle.engine.proofs.closure.Kinds as closure-kinds
use Rattle.engine.proofs.closure.Reads as closure-reads
use Rattle.engine.proofs.check.Kinds as check-kinds
use Rattle.engine.proofs.check.Reads as check-reads
use Rattle.engine.proofs.guarded_tick.Kinds as guarded-tick-kinds
use Rattle.engine.proofs.guarded_tick.Reads as guarded-tick-reads
-- any two answers that meet the promise, of arguments that are alike, are one
pub use Rattle.image.proofs.Promises.{OneAnswer as Determined}

pub size_determined : Determined 0 size-kinds.ps size-kinds.r ℕ size-reads.Post (λ κs μs a b. a.0 ≡ b.0)
size_determined κs μs a b x y s s' l p q = (rw l at p) ∙ sym q

pub lowest_determined : Determined 0 lowest-kinds.ps lowest-kinds.r ℕ lowest-reads.Post (λ κs μs a b. a.0 ≡ b.0)
lowest_determined κs μs a b x y s s' l p q = (rw l at p) ∙ sym q

pub enabled_determined : Determined 2 enabled-kinds.ps enabled-kinds.r (Result Bool Refusal) enabled-reads.Learnt
    (λ κs μs a b. (a.0.now ≡ b.0.now) × (a.1.0.now ≡ b.1.0.now) × (a.1.1.0 ≡ b.1.1.0))
enabled_determined κs μs a b x y s s' l p q = enabled_once x y ((rw (l.0, l.1, l.2) at p) ∙ sym q)

pub due_determined : Determined 2 due-kinds.ps due-kinds.r (Result ℕ Refusal) due-reads.Learnt
    (λ κs μs a b. (a.0.now ≡ b.0.now) × (a.1.0.now ≡ b.1.0.now))
due_determined κs μs a b x y s s' l p q = set_once x y ((rw (l.0, l.1) at p) ∙ sym q)

pub happen_determined : Determined 2 happen-kinds.ps happen-kinds.r (Result Marking Refusal) happen-reads.Learnt
    (λ κs μs a b. (a.0.now ≡ b.0.now) × (a.1.0.now ≡ b.1.0.now) × (a.1.1.0 ≡ b.1.1.0))
happen_determined κs μs a b x y s s' l p q = marking_once b.1.0.now x y ((rw (l.0, l.1, l.2) at p) ∙ sym q)

pub plain_tick_determined : Determined 2 plain-tick-kinds.ps plain-tick-kinds.r (Result Marking Refusal) plain-tick-reads.Learnt
    (λ κs μs a b. (a.0.now ≡ b.0.now) × (a.1.0.now ≡ b.1.0.now))
plain_tick_determined κs μs a b x y s s' l p q = marking_once b.1.0.now x y ((rw (l.0, l.1) at p) ∙ sym q)

pub margin_determined : Determined 2 margin-kinds.ps margin-kinds.r (Result Margin Refusal) margin-reads.Learnt
    (λ κs μs a b. (a.0.now ≡ b.0.now) × (a.1.0.now ≡ b.1.0.now) × (a.1.1.0 ≡ b.1.1.0))
margin_determined κs μs a b x y s s' l p q = margin_once x y ((rw (l.0, l.1, l.2) at p.0) ∙ sym q.0)

pub hold_up_determined : Determined 2 hold-up-kinds.ps hold-up-kinds.r (Result HoldUp Refusal) hold-up-reads.Learnt
    (λ κs μs a b. (a.0.now ≡ b.0.now) × (a.1.0.now ≡ b.1.0.now) × (a.1.1.0 ≡ b.1.1.0))
hold_up_determined κs μs a b x y s s' l p q = hold_up_once x y ((rw (l.0, l.1, l.2) at p.0) ∙ sym q.0)

pub closure_determined : Determined 2 closure-kinds.ps closure-kinds.r (Result Closure Refusal) closure-reads.Learnt
    (λ κs μs a b. (a.0.now ≡ b.0.now) × (a.1.0.now ≡ b.1.0.now))
closure_determined κs μs a b x y s s' l p q = closure_once x y ((rw (l.0, l.1) at p) ∙ sym q)

pub check_determined : Determined 2 check-kinds.ps check-kinds.r (Result (Unit {0}) CheckError) check-reads.Learnt
    (λ κs μs a b. (a.0.now ≡ b.0.now) × (a.1.0.now ≡ b.1.0.now))
check_determined κs μs a b x y s s' l p q = check_once x y ((rw (l.0, l.1) at p.0) ∙ sym q.0)

pub guarded_tick_determined : Determined 2 guarded-tick-kinds.ps guarded-tick-kinds.r (Result Guarded CheckError) guarded-tick-reads.Learnt
    (λ κs μs a b. (a.0.now ≡ b.0.now) × (a.1.0.now ≡ b.1.0.now))
guarded_tick_determined κs μs a b x y s s' l p q = guarded_once b.1.0.now x y ((rw (l.0, l.1) at p) ∙ sym q)

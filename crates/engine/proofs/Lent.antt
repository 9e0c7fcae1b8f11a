-- The promise of each public call that is lent a list or a buffer leaves one answer, and one content of each lent buffer: two that both meet it,
-- of arguments that are alike (what is lent holds the same, wherever it lies, and the numbers are the same), are equal. Of a stretch that is
-- handed back, its bytes and its place: there the lists are the same ones. It is stated about the contract itself, as the check reads it.
-- Assumes nothing.
use mathlib.Core.Path.{◌≡◌, ap, sym, ◌∙◌}
use mathlib.Core.List.{List}
use Prim.Native.Nat.{ℕ}
use Rattle.std.specs.Prelude.{Bool, Result, Ok, Err, IfOk}
use Rattle.image.proofs.Promises.{AgreeAlike, OneAnswer}
use Rattle.rules.specs.declared.Marking.{Marking}
use Rattle.rules.specs.declared.refusal.Refusal.{Refusal}
use Rattle.rules.specs.Results.{number_of}
use Rattle.rules.proofs.Laws.Results.{refusal_once, refused_number, result_once, marking_once}
use Rattle.engine.specs.declared.Remedy.{Remedy}
use Rattle.engine.proofs.remedies.Kinds as remedies-kinds
use Rattle.engine.proofs.remedies.Reads as remedies
use Rattle.engine.proofs.run_bytes.Kinds as run-bytes-kinds
use Rattle.engine.proofs.run_bytes.Reads as run-bytes
use Rattle.engine.proofs.run.Kinds as run-kinds
use Rattle.engine.proofs.run.Reads as run
use Rattle.engine.proofs.station.Kinds as station-kinds
use Rattle.engine.proofs.station.Reads as station

pub run_bytes_once : AgreeAlike 4 run-bytes-kinds.ps run-bytes-kinds.r (Result Marking Refusal) run-bytes.Learnt
    (λ κs μs a b. (a.0.now ≡ b.0.now) × (a.1.0.now ≡ b.1.0.now) × (a.1.1.0.now ≡ b.1.1.0.now) × (a.1.1.1.0.now ≡ b.1.1.1.0.now))
    (λ κs μs one other x y. (one ≡ other) × (x.1.1.1.0.now ≡ y.1.1.1.0.now))
run_bytes_once κs μs a b one other x y l p q =
    let same = rw (l.0, l.1, l.2, l.3) at p in
    (marking_once b.1.0.now one other (same.0 ∙ sym q.0), same.1 ∙ sym q.1)

pub run_once : AgreeAlike 4 run-kinds.ps run-kinds.r (Result Marking Refusal) run.Learnt
    (λ κs μs a b. (a.0.now ≡ b.0.now) × (a.1.0.now ≡ b.1.0.now) × (a.1.1.0.now ≡ b.1.1.0.now) × (a.1.1.1.0.now ≡ b.1.1.1.0.now))
    (λ κs μs one other x y. (one ≡ other) × (x.1.1.1.0.now ≡ y.1.1.1.0.now))
run_once κs μs a b one other x y l p q =
    let same = rw (l.0, l.1, l.2, l.3) at p in
    (marking_once b.1.0.now one other (same.0 ∙ sym q.0), same.1 ∙ sym q.1)

pub station_once : AgreeAlike 2 station-kinds.ps station-kinds.r (Result ℕ Refusal) station.Learnt
    (λ κs μs a b. (a.0.now ≡ b.0.now) × (a.1.0 ≡ b.1.0) × (a.1.1.0.now ≡ b.1.1.0.now))
    (λ κs μs one other x y. (one ≡ other) × (x.1.1.0.now ≡ y.1.1.0.now))
station_once κs μs a b one other x y l p q =
    let same = rw (l.0, l.1, l.2) at p in
    (result_once 0 one other (same.0 ∙ sym q.0) (same.1.0 ∙ sym q.1.0), same.1.1 ∙ sym q.1.1)

-- a stretch is told by its bytes and its place
same_remedy : (fallback : Bool) (bytes : List ℕ) (place : ℕ × ℕ) (one other : Result Remedy Refusal) → number_of one ≡ number_of other
    → IfOk one (λ a. a.fallback ≡ fallback) → IfOk one (λ a. a.start.now ≡ bytes) → IfOk one (λ a. a.start.ref_ptr ≡ place)
    → IfOk other (λ b. b.fallback ≡ fallback) → IfOk other (λ b. b.start.now ≡ bytes) → IfOk other (λ b. b.start.ref_ptr ≡ place)
    → one ≡ other
same_remedy fallback bytes place (Ok a) (Ok b) same fa sa oa fb sb ob =
    λ i. Ok (record { fallback = (fa ∙ sym fb) i; start = record { ref_ptr = (oa ∙ sym ob) i; now = (sa ∙ sym sb) i } })
same_remedy fallback bytes place (Ok a) (Err refusal) same fa sa oa fb sb ob = absurd (refused_number refusal (sym same))
same_remedy fallback bytes place (Err refusal) (Ok b) same fa sa oa fb sb ob = absurd (refused_number refusal same)
same_remedy fallback bytes place (Err one) (Err other) same fa sa oa fb sb ob = ap Err (refusal_once one other same)

pub remedies_once : OneAnswer 3 remedies-kinds.ps remedies-kinds.r (Result Remedy Refusal) remedies.Learnt
    (λ κs μs a b. (a.0.now ≡ b.0.now) × (a.1.0.now ≡ b.1.0.now) × (a.1.1.0 ≡ b.1.1.0) × (a.1.1.1.0 ≡ b.1.1.1.0))
remedies_once κs μs a b one other x y l p q =
    let same = rw (l.0, l.1, l.2, l.3) at p in
    same_remedy _ _ _ one other (same.0 ∙ sym q.0) same.1.0 same.1.1.0 same.1.1.1 q.1.0 q.1.1.0 q.1.1.1

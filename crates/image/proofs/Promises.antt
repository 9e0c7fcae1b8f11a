-- Two results that meet a public call's promise are equal, the lent buffer too, where the arguments are alike; and what the calls promise
-- together: what is read is accepted, what is written is read back, what is read is written again, what is carried over is read as the old
-- image says. A promise is what a caller learns of the answer and of the parameters at exit, as the call's own clauses say it. Assumes nothing.
use mathlib.Core.Path.{◌≡◌, refl, sym, ap, ap₂, ◌∙◌}
use mathlib.Core.List.{List, ◌++◌}
use Prim.Native.Nat.{ℕ, ◌*◌, ◌<◌, ◌≤◌}
use contract.Lifetimes.{Lfts}
use denote.Triple.Clauses.{AtExit}
use borrow.Fn.Kinds.{ParamKind, ResultKind, Out, Dens, res_t, ended_of}
use lib.ListN.{length, get_or, take, drop}
use Rattle.rules.specs.declared.Table.{Table}
use Rattle.rules.specs.declared.Marking.{Marking}
use Rattle.rules.specs.declared.refusal.Refusal.{Refusal}
use Rattle.rules.specs.Answers.{MarkingAnswer, TableAnswer}
use Rattle.std.specs.Prelude.{Result, Ok, Err}
use Rattle.rules.specs.Results.{number_of, as_table, as_marking}
use Rattle.rules.specs.Holds.{record_of, empty_marking}
use Rattle.rules.specs.Judge.{table_number, marking_number_for}
use Rattle.rules.specs.Image.{record_bytes, marking_from, read_table, read_marking, write_number, write_marking, fresh as freshAnswer}
use Rattle.rules.specs.Carrying.{carried}
use Rattle.rules.proofs.Laws.Results.{refusal_once, result_once, table_once, marking_once}
use Rattle.image.specs.Theorems.{read_table_accepted, read_marking_accepted, fresh_accepted, written_is_read, read_is_written, carried_is_read}
use Rattle.rules.proofs.Marking.fresh.Kinds as fresh-kinds
use Rattle.rules.proofs.Marking.fresh.Reads as fresh
use Rattle.rules.proofs.Marking.empty.Kinds as empty-kinds
use Rattle.rules.proofs.Marking.empty.Reads as empty
use Rattle.image.proofs.read_table.Kinds as read-table-kinds
use Rattle.image.proofs.read_table.Reads as read_table
use Rattle.image.proofs.write_table.Kinds as write-table-kinds
use Rattle.image.proofs.write_table.Reads as write-table
use Rattle.image.proofs.read_marking.Kinds as read-marking-kinds
use Rattle.image.proofs.read_marking.Reads as read-marking
use Rattle.image.proofs.write_marking.Kinds as write-marking-kinds
use Rattle.image.proofs.write_marking.Reads as write-marking
use Rattle.image.proofs.carry_marking.Kinds as carry-marking-kinds
use Rattle.image.proofs.carry_marking.Reads as carry-marking
use Rattle.image.proofs.judge_table.Kinds as judge-table-kinds
use Rattle.image.proofs.judge_table.Reads as judge-table
use Rattle.image.proofs.judge_marking.Kinds as judge-marking-kinds
use Rattle.image.proofs.judge_marking.Reads as judge-marking

-- two runs of a call, of the very same arguments, that both keep its promise agree (the calls for C are compared so, in `duty`)
abbrev pub Agree : (n : ℕ) (ps : List (ParamKind n)) (r : ResultKind n) (promise : Out n ps r)
    → ((κs : Lfts n) → (res_t r κs).Denot → (res_t r κs).Denot → AtExit (ended_of n ps r) κs → AtExit (ended_of n ps r) κs → Type 0) → Type 0
Agree n ps r promise Same =
    (κs : Lfts n) (a : Dens κs ps) (one other : (res_t r κs).Denot) (x y : AtExit (ended_of n ps r) κs)
    → promise κs a one x → promise κs a other y → Same κs one other x y

-- Two runs of a call, each with lifetimes and arguments of its own, that both keep its promise agree where the arguments are alike. Each theorem
-- says what is alike: what is lent holds the same, wherever it lies, and the numbers are the same. A is what the call answers.
abbrev pub AgreeAlike : (n : ℕ) (ps : List (ParamKind n)) (r : ResultKind n) (A : Type 0)
    → ((κs : Lfts n) → Dens κs ps → A → AtExit (ended_of n ps r) κs → Type 0)
    → ((κs μs : Lfts n) → Dens κs ps → Dens μs ps → Type 0)
    → ((κs μs : Lfts n) → A → A → AtExit (ended_of n ps r) κs → AtExit (ended_of n ps r) μs → Type 0) → Type 0
AgreeAlike n ps r A promise Alike Same =
    (κs μs : Lfts n) (a : Dens κs ps) (b : Dens μs ps) (one other : A) (x : AtExit (ended_of n ps r) κs) (y : AtExit (ended_of n ps r) μs)
    → Alike κs μs a b → promise κs a one x → promise μs b other y → Same κs μs one other x y

-- two answers, to arguments that are alike, are one
abbrev pub OneAnswer : (n : ℕ) (ps : List (ParamKind n)) (r : ResultKind n) (A : Type 0)
    → ((κs : Lfts n) → Dens κs ps → A → AtExit (ended_of n ps r) κs → Type 0)
    → ((κs μs : Lfts n) → Dens κs ps → Dens μs ps → Type 0) → Type 0
OneAnswer n ps r A promise Alike = AgreeAlike n ps r A promise Alike (λ κs μs one other x y. one ≡ other)

-- a call that is done has no value, and is told by its number
outcome_once : (one other : Result (Unit {0}) Refusal) → number_of one ≡ number_of other → one ≡ other
outcome_once one other same = result_once tt one other same refl

pub read_table_once : OneAnswer 1 read-table-kinds.ps read-table-kinds.r (Result Table Refusal) read_table.Learnt
    (λ κs μs a b. a.0.now ≡ b.0.now)
read_table_once κs μs a b one other x y l p q = table_once one other ((rw l at p) ∙ sym q)

pub write_table_once : OneAnswer 2 write-table-kinds.ps write-table-kinds.r (Result (Unit {0}) Refusal) write-table.Learnt
    (λ κs μs a b. (a.0.now ≡ b.0.now) × (a.1.0.now ≡ b.1.0.now))
write_table_once κs μs a b one other x y l p q = outcome_once one other ((rw (l.0, l.1) at p.0) ∙ sym q.0)

pub read_marking_once : OneAnswer 1 read-marking-kinds.ps read-marking-kinds.r (Result Marking Refusal) read-marking.Learnt
    (λ κs μs a b. (a.0 ≡ b.0) × (a.1.0.now ≡ b.1.0.now))
read_marking_once κs μs a b one other x y l p q = marking_once empty_marking one other ((rw (l.0, l.1) at p) ∙ sym q)

pub write_marking_once : OneAnswer 2 write-marking-kinds.ps write-marking-kinds.r (Result (Unit {0}) Refusal) write-marking.Learnt
    (λ κs μs a b. (a.0.now ≡ b.0.now) × (a.1.0.now ≡ b.1.0.now))
write_marking_once κs μs a b one other x y l p q = outcome_once one other ((rw (l.0, l.1) at p.0) ∙ sym q.0)

pub carry_marking_once : OneAnswer 2 carry-marking-kinds.ps carry-marking-kinds.r (Result (Unit {0}) Refusal) carry-marking.Learnt
    (λ κs μs a b. (a.0 ≡ b.0) × (a.1.0.now ≡ b.1.0.now) × (a.1.1.0.now ≡ b.1.1.0.now))
carry_marking_once κs μs a b one other x y l p q = outcome_once one other ((rw (l.0, l.1, l.2) at p.0) ∙ sym q.0)

pub judge_table_once : OneAnswer 1 judge-table-kinds.ps judge-table-kinds.r (Result (Unit {0}) Refusal) judge-table.Learnt
    (λ κs μs a b. a.0.now ≡ b.0.now)
judge_table_once κs μs a b one other x y l p q = outcome_once one other ((rw l at p) ∙ sym q)

pub judge_marking_once : OneAnswer 1 judge-marking-kinds.ps judge-marking-kinds.r (Result (Unit {0}) Refusal) judge-marking.Learnt
    (λ κs μs a b. (a.0 ≡ b.0) × (a.1.0.now ≡ b.1.0.now))
judge_marking_once κs μs a b one other x y l p q = outcome_once one other ((rw (l.0, l.1) at p) ∙ sym q)

pub fresh_once : OneAnswer 0 fresh-kinds.ps fresh-kinds.r (Result Marking Refusal) fresh.Learnt (λ κs μs a b. a.0 ≡ b.0)
fresh_once κs μs a b one other x y l p q = marking_once empty_marking one other ((rw l at p) ∙ sym q)

pub empty_once : OneAnswer 0 empty-kinds.ps empty-kinds.r Marking empty.Learnt (λ κs μs a b. a ≡ b)
empty_once κs μs a b one other x y l p q = p ∙ sym q

-- A refusal where no marking was handed in is its number and the empty marking: two results that are read as that are one, and two refusals that
-- are read alike are one.
pub refused_once :
    ((number : ℕ) (one other : Result Marking Refusal)
    → as_marking empty_marking one ≡ record { number = number; marking = empty_marking }
    → as_marking empty_marking other ≡ record { number = number; marking = empty_marking }
    → one ≡ other)
    × ((one other : Refusal) → as_marking empty_marking (Err one) ≡ as_marking empty_marking (Err other) → one ≡ other)
refused_once = (
  λ number one other p q. marking_once empty_marking one other (p ∙ sym q),
  λ one other same. refusal_once one other (ap (λ (a : MarkingAnswer). a.number) same),
)

-- .. and so are two buffers that are handed back
pub write_table_bytes_once : AgreeAlike 2 write-table-kinds.ps write-table-kinds.r (Result (Unit {0}) Refusal) write-table.Learnt
    (λ κs μs a b. (a.0.now ≡ b.0.now) × (a.1.0.now ≡ b.1.0.now)) (λ κs μs one other x y. x.1.0.now ≡ y.1.0.now)
write_table_bytes_once κs μs a b one other x y l p q = (rw (l.0, l.1) at p.1) ∙ sym q.1

pub write_marking_bytes_once : AgreeAlike 2 write-marking-kinds.ps write-marking-kinds.r (Result (Unit {0}) Refusal) write-marking.Learnt
    (λ κs μs a b. (a.0.now ≡ b.0.now) × (a.1.0.now ≡ b.1.0.now)) (λ κs μs one other x y. x.1.0.now ≡ y.1.0.now)
write_marking_bytes_once κs μs a b one other x y l p q = (rw (l.0, l.1) at p.1) ∙ sym q.1

pub carry_marking_bytes_once : AgreeAlike 2 carry-marking-kinds.ps carry-marking-kinds.r (Result (Unit {0}) Refusal) carry-marking.Learnt
    (λ κs μs a b. (a.0 ≡ b.0) × (a.1.0.now ≡ b.1.0.now) × (a.1.1.0.now ≡ b.1.1.0.now)) (λ κs μs one other x y. x.1.1.0.now ≡ y.1.1.0.now)
carry_marking_bytes_once κs μs a b one other x y l p q = (rw (l.0, l.1, l.2) at p.1) ∙ sym q.1

-- A run of a call that keeps its promise: what it is given, what it answers, and the parameters that it leaves.
pub record Run (n : ℕ) (ps : List (ParamKind n)) (r : ResultKind n) (promise : Out n ps r) : Type 0 where
  pub lifetimes : Lfts n
  pub given : Dens lifetimes ps
  pub answer : (res_t r lifetimes).Denot
  pub left : AtExit (ended_of n ps r) lifetimes
  pub kept : promise lifetimes given answer left

abbrev pub ReadsTable : Type 0
ReadsTable = Run 1 read-table-kinds.ps read-table-kinds.r read_table.Learnt

abbrev pub ReadsMarking : Type 0
ReadsMarking = Run 1 read-marking-kinds.ps read-marking-kinds.r read-marking.Learnt

abbrev pub WritesMarking : Type 0
WritesMarking = Run 2 write-marking-kinds.ps write-marking-kinds.r write-marking.Learnt

abbrev pub CarriesMarking : Type 0
CarriesMarking = Run 2 carry-marking-kinds.ps carry-marking-kinds.r carry-marking.Learnt

abbrev pub JudgesTable : Type 0
JudgesTable = Run 1 judge-table-kinds.ps judge-table-kinds.r judge-table.Learnt

abbrev pub JudgesMarking : Type 0
JudgesMarking = Run 1 judge-marking-kinds.ps judge-marking-kinds.r judge-marking.Learnt

abbrev pub MakesFresh : Type 0
MakesFresh = Run 0 fresh-kinds.ps fresh-kinds.r fresh.Learnt

-- what is read is told by its number and its value
table_is : (t : Table) (image : List ℕ) (result : Result Table Refusal) → result ≡ Ok t → as_table result ≡ read_table image
    → ((read_table image).number ≡ 0) × ((read_table image).table ≡ t)
table_is t image result done kept =
    let told = sym kept ∙ ap as_table done in
    (ap (λ (a : TableAnswer). a.number) told, ap (λ (a : TableAnswer). a.table) told)

marking_is : (m : Marking) (answer : MarkingAnswer) (result : Result Marking Refusal) → result ≡ Ok m → as_marking empty_marking result ≡ answer
    → (answer.number ≡ 0) × (answer.marking ≡ m)
marking_is m answer result done kept =
    let told = sym kept ∙ ap (as_marking empty_marking) done in
    (ap (λ (a : MarkingAnswer). a.number) told, ap (λ (a : MarkingAnswer). a.marking) told)

-- A table that is read is accepted by the judge.
pub table_accepted : (read : ReadsTable) (judge : JudgesTable) (t : Table) → read.answer ≡ Ok t → judge.given.0.now ≡ t
    → judge.answer ≡ Ok tt
table_accepted read judge t done same =
    let image = read.given.0.now in
    let told = table_is t image read.answer done read.kept in
    outcome_once judge.answer (Ok tt) (judge.kept ∙ ap table_number (same ∙ sym told.1) ∙ read_table_accepted image told.0)

-- A marking that is read is accepted by the judge.
pub marking_accepted : (read : ReadsMarking) (judge : JudgesMarking) (m : Marking) → read.answer ≡ Ok m
    → judge.given.0 ≡ read.given.0 → judge.given.1.0.now ≡ m → judge.answer ≡ Ok tt
marking_accepted read judge m done events same =
    let n = read.given.0 in
    let image = read.given.1.0.now in
    let told = marking_is m (read_marking n image) read.answer done read.kept in
    outcome_once judge.answer (Ok tt) (judge.kept ∙ ap₂ marking_number_for events (same ∙ sym told.1) ∙ read_marking_accepted n image told.0)

-- A fresh marking is accepted by the judge.
pub fresh_marking_accepted : (make : MakesFresh) (judge : JudgesMarking) (m : Marking) → make.answer ≡ Ok m
    → judge.given.0 ≡ make.given.0 → judge.given.1.0.now ≡ m → judge.answer ≡ Ok tt
fresh_marking_accepted make judge m done events same =
    let told = marking_is m (freshAnswer make.given.0) make.answer done make.kept in
    outcome_once judge.answer (Ok tt) (judge.kept ∙ ap₂ marking_number_for events (same ∙ sym told.1) ∙ fresh_accepted make.given.0 told.0)

-- Reading what was written gives the marking back, with event places past the count 0.
pub written_then_read : (write : WritesMarking) (read : ReadsMarking) → write.answer ≡ Ok tt
    → read.given.0 ≡ write.given.0.now.events → read.given.1.0.now ≡ take (record_bytes * write.given.0.now.events) write.left.1.0.now
    → read.answer ≡ Ok (marking_from write.given.0.now.events (record_of write.given.0.now))
written_then_read write read done events bytes =
    let m = write.given.0.now in
    let buffer = write.given.1.0.now in
    marking_once empty_marking read.answer (Ok (marking_from m.events (record_of m)))
    (read.kept
    ∙ ap₂ read_marking events (bytes ∙ ap (take (record_bytes * m.events)) write.kept.1)
    ∙ written_is_read m buffer (sym write.kept.0 ∙ ap number_of done))

-- Reading what was carried over gives the marking of the old image.
pub carried_then_read : (carry : CarriesMarking) (read : ReadsMarking) → carry.answer ≡ Ok tt
    → read.given.0 ≡ carry.given.0 → read.given.1.0.now ≡ take (record_bytes * carry.given.0) carry.left.1.1.0.now
    → read.answer ≡ Ok (carried carry.given.0 carry.given.1.0.now)
carried_then_read carry read done events bytes =
    let n = carry.given.0 in
    marking_once empty_marking read.answer (Ok (carried n carry.given.1.0.now))
    (read.kept
    ∙ ap₂ read_marking events (bytes ∙ ap (take (record_bytes * n)) carry.kept.1)
    ∙ carried_is_read n carry.given.1.0.now carry.given.1.1.0.now (sym carry.kept.0 ∙ ap number_of done))

-- Writing what was read gives the same bytes, and later bytes stay. That each place of a slice is a byte is a fact of its type.
pub read_then_written : (read : ReadsMarking) (write : WritesMarking) (m : Marking) → read.answer ≡ Ok m
    → ((i : ℕ) → get_or read.given.1.0.now i 0 < 256)
    → write.given.0.now ≡ m → record_bytes * read.given.0 ≤ length write.given.1.0.now
    → (write.answer ≡ Ok tt) × (write.left.1.0.now ≡ read.given.1.0.now ++ drop (record_bytes * read.given.0) write.given.1.0.now)
read_then_written read write m done bytes same long =
    let events = read.given.0 in
    let image = read.given.1.0.now in
    let buffer = write.given.1.0.now in
    let told = marking_is m (read_marking events image) read.answer done read.kept in
    let m : write.given.0.now ≡ (read_marking events image).marking = same ∙ sym told.1 in
    let round = read_is_written events image buffer bytes told.0 long in (
      outcome_once write.answer (Ok tt) (write.kept.0 ∙ ap (λ (k : Marking). write_number k (length buffer)) m ∙ round.0),
      write.kept.1 ∙ ap (λ (k : Marking). write_marking k buffer) m ∙ round.1,
    )

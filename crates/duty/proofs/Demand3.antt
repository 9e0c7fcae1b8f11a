-- Demand 3 for a C caller who chains the exported calls on one marking buffer, each run as its promise says. What a call puts back is read as the
-- marking that the rule answers, so the chain comes to a chain of the engine's calls, and the statement for that one is told of the bytes.
-- Assumes nothing.
use mathlib.Core.Path.{◌≡◌, refl, ◌∙◌, ap, ap₂, sym, subst}
use mathlib.Core.Bool.{Bool, true, false, cond}
use mathlib.Core.List.{List, [], ◌∷◌, ◌++◌}
use Prim.Native.Nat.{ℕ}
use native.Mathlib.Omega.{arith}
use lib.Dec.{eqb}
use lib.ListN.{length, take, drop}
use lib.Seq.{take_at, drop_at}
use borrow.Author.Tests.{eqb-true, le-ltb}
use Rattle.rules.specs.declared.Table.{Table}
use Rattle.rules.specs.declared.Marking.{Marking}
use Rattle.rules.specs.declared.Step.{Step}
use Rattle.rules.specs.Answers.{MarkingAnswer, ToldCheck}
use Rattle.rules.specs.CheckAnswer.{Accepts}
use Rattle.rules.specs.Numbers.{◌else◌, done, check_number}
use Rattle.rules.specs.Judge.{judged}
use Rattle.rules.specs.Image.{marking_image}
use Rattle.rules.specs.Happen.{happen_number, happen}
use Rattle.rules.specs.Effect.{effect}
use Rattle.rules.specs.Time.{time, plain_tick_number, plain_tick}
use Rattle.rules.specs.Check.{check, told_check}
use Rattle.rules.specs.Guard.{caused, guarded, guarded_tick}
use Rattle.rules.specs.Remedy.{effects, remedy}
use Rattle.rules.specs.Sleep.{slept, sleep_number, sleep_answer, sleep_list}
use Rattle.rules.specs.Trace.{guarded_tick_kind, end_of, steps_in, bytes_number, run_bytes, run_bytes_answers}
use Rattle.rules.specs.Images.{table_of, marking_of, images_number, on, put_back, guard_number}
use Rattle.rules.specs.History.{Act, executes, passes, then_pass, history_of}
use Rattle.rules.specs.Calls.{step, Calls, Caused}
use Rattle.rules.specs.Calls.{none as engine-none, happened as engine-happened, ticked as engine-ticked}
use Rattle.rules.specs.Calls.{guardedly as engine-guardedly, ran_bytes as engine-ran, offered as engine-offered, acts_in as engineActs, listed as engineListed}
use Rattle.rules.specs.Calls.{Answered as EngineAnswered}
use Rattle.rules.proofs.Laws.Counting.{repeated_keeps}
use Rattle.rules.proofs.Laws.Check.{verdict_done}
use Rattle.rules.proofs.Laws.InNumbers.{check_in_numbers_lem}
use Rattle.rules.proofs.Laws.Numbers.{both_done, else_done}
use Rattle.rules.proofs.Laws.Taken.{caused_length, guarded_is}
use Rattle.rules.proofs.Laws.Trace.{guarded_judged, end_judged}
use Rattle.rules.proofs.Demand3.Facts.{effect_judged, time_judged}
use Rattle.rules.proofs.Demand3.Accepts.{check_accepts}
use Rattle.rules.proofs.Demand3.Leading.{after_history}
use Rattle.rules.proofs.Demand3.Chain.{chain}
use Rattle.rules.proofs.Demand3.Runner.{run_bytes_grants}
use Rattle.duty.specs.Laws.Images.{read_judged}
use Rattle.duty.specs.Laws.ReadBack.{AsRead, effect_as_read, time_as_read, effects_as_read, after_as_read, as_read, put_back_lem}
use Rattle.duty.specs.Laws.Guarded.{caused_is}
use Rattle.duty.proofs.Chained.{Happen, PlainTick, Check, GuardedTick, Sleep, Run, count, listed, slept_places}
use Rattle.duty.proofs.Chained.{Chained, none, happened, ticked, guardedly, ran, offered, acts_in, Answered}

-- a check without a number accepts
pub accepts : (t : Table) (m : Marking) → judged t m ≡ 0 → check_number (check t m) ≡ 0 → check t m ≡ Accepts
unfolding check
accepts t m done h = check_accepts t m done (verdict_done t m (rw done at h))

-- a chain of the engine's calls that comes to some acts
pub record Along (t : Table) (m : Marking) (steps : List Step) (end : Marking) (acts : List Act) : Type 0 where
  pub calls : Calls t m steps end
  pub same : engineActs calls ≡ acts

-- the images are read: a call's number is its rule's, and what it puts back is read as what the rule answers
module _ (table marking : List ℕ) (read : images_number table marking ≡ 0) where
  abbrev t : Table
  t = table_of table

  abbrev m : Marking
  m = marking_of table marking

  judged_done : judged t m ≡ 0
  judged_done = read_judged table marking read

  pub first_read : AsRead m
  first_read = as_read table marking read

  own_number : {number own : ℕ} → number ≡ (images_number table marking else own) → number ≡ own
  own_number {number} {own} n = n ∙ else_done own read

  pub record Next (answer : MarkingAnswer) (number : ℕ) (put : List ℕ) : Type 0 where
    pub told : number ≡ answer.number
    pub reads : images_number table put ≡ 0
    pub holds : marking_of table put ≡ answer.marking

  next : (number own : ℕ) (acted : Marking) (put : List ℕ) → number ≡ (images_number table marking else own)
      → put ≡ put_back number (done own acted m) marking → judged t acted ≡ 0 → AsRead acted
      → Next (record { number = own; marking = done own acted m }) number put
  next number own acted put n e h a =
      let same = own_number n in
      let back = put_back_lem table marking read own acted put (e ∙ ap (λ (k : ℕ). put_back k (done own acted m) marking) same) h a in
      record { told = same; reads = back.0; holds = back.1 }

  after_happen : (e number : ℕ) (put : List ℕ) → number ≡ (images_number table marking else (happen t m e).number)
      → put ≡ put_back number (happen t m e).marking marking → Next (happen t m e) number put
  unfolding happen
  after_happen e number put n p =
      next number (judged t m else happen_number t m e) (effect t m e) put n p (effect_judged t m e judged_done) (effect_as_read t m e first_read)

  after_tick : (number : ℕ) (put : List ℕ) → number ≡ (images_number table marking else (plain_tick t m).number)
      → put ≡ put_back number (plain_tick t m).marking marking → Next (plain_tick t m) number put
  unfolding plain_tick
  after_tick number put n p =
      next number (judged t m else plain_tick_number m) (time m) put n p (time_judged t m judged_done) (time_as_read m first_read)

  after_run : (bytes : List ℕ) (room number : ℕ) (put : List ℕ) → number ≡ (images_number table marking else (run_bytes t m bytes room).number)
      → put ≡ put_back number (run_bytes t m bytes room).marking marking → Next (run_bytes t m bytes room) number put
  unfolding run_bytes
  after_run bytes room number put n p =
      next number (bytes_number t m bytes room) (end_of t m (steps_in bytes)) put n p (end_judged t m (steps_in bytes) judged_done)
      (subst AsRead (after_history t m (steps_in bytes)) (after_as_read t m (history_of t m (steps_in bytes)) first_read))

  pub guarded_as_read : (k : Marking) → AsRead k → AsRead (guarded t k)
  guarded_as_read k a = subst AsRead (sym (guarded_is t k)) (time_as_read (effects t k (caused t k)) (effects_as_read t k (caused t k) a))

  -- of minutes slept through, their number and marking
  abbrev slept_answer : ℕ → ℕ → MarkingAnswer
  slept_answer ticks room = record { number = (sleep_answer t m ticks room).number; marking = (sleep_answer t m ticks room).marking }

  pub after_sleep : (ticks room number : ℕ) (put : List ℕ) → number ≡ (images_number table marking else (sleep_answer t m ticks room).number)
      → put ≡ put_back number (sleep_answer t m ticks room).marking marking → Next (slept_answer ticks room) number put
  unfolding sleep_answer slept
  after_sleep ticks room number put n p =
      next number (sleep_number t m ticks room) (slept t m ticks) put n p
      (repeated_keeps (guarded t) (λ (k : Marking). judged t k ≡ 0) (guarded_judged t) ticks m judged_done)
      (repeated_keeps (guarded t) AsRead guarded_as_read ticks m first_read)

  after_guarded : (number : ℕ) (put : List ℕ) → number ≡ 0 → (guarded_tick t m).number ≡ 0 → put ≡ put_back number (guarded_tick t m).marking marking
      → (images_number table put ≡ 0) × (marking_of table put ≡ (guarded_tick t m).marking)
  unfolding guarded_tick
  after_guarded number put h granted p =
      put_back_lem table marking read (check_number (check t m)) (guarded t m) put
      (p ∙ ap (λ (k : ℕ). put_back k (guarded_tick t m).marking marking) (h ∙ sym granted))
      (guarded_judged t m judged_done)
      (guarded_as_read m first_read)

  -- the rest of a chain goes on from the answer's marking
  from : {answer : MarkingAnswer} {number : ℕ} {put : List ℕ} {steps : List Step} {end : Marking} {acts : List Act} → Next answer number put
      → Along t (marking_of table put) steps end acts → Along t answer.marking steps end acts
  from {answer} {number} {put} {steps} {end} {acts} n rest = subst (λ (k : Marking). Along t k steps end acts) n.holds rest

-- a guarded tick that is done: its rule's number is 0 too, and it lists what the rule's answer lists
module _ (table marking : List ℕ) (number bytes old told : ℕ) (before put list : List ℕ)
    (number_is : number ≡ (guard_number table marking bytes else (on guarded_tick table marking).number))
    (put_is : put ≡ put_back number (on guarded_tick table marking).marking marking)
    (list_is : list ≡ done number (on caused table marking ++ drop (length (on caused table marking)) before) before)
    (told_is : told ≡ done number (length (on caused table marking)) old) (h : number ≡ 0)
  where
    tick_granted : (on guarded_tick table marking).number ≡ 0
    tick_granted = (both_done (guard_number table marking bytes) _ (sym number_is ∙ h)).1

    told_count_lem : told ≡ length (on caused table marking)
    told_count_lem = told_is ∙ rw h

    first_caused : list ≡ on caused table marking ++ drop (length (on caused table marking)) before
    first_caused = list_is ∙ rw h

    pub first_listed : take told list ≡ engineListed (on guarded_tick table marking)
    first_listed =
        ap (take told) first_caused ∙ take_at (on caused table marking) (drop (length (on caused table marking)) before) told (sym told_count_lem)
        ∙ sym (caused_is (table_of table) (marking_of table marking) (on guarded_tick table marking) refl tick_granted)

    later_left : drop told list ≡ drop told before
    later_left =
        ap (drop told) first_caused ∙ drop_at (on caused table marking) (drop (length (on caused table marking)) before) told (sym told_count_lem)
        ∙ ap (λ (n : ℕ). drop n before) (sym told_count_lem)

    pub put_marking : put ≡ marking_image (on guarded_tick table marking).marking
    put_marking = put_is ∙ rw h

-- what the promises say, of the images
module _ {table marking : List ℕ} where
  happen_said : (call : Happen) → call.handed.0.now ≡ table → call.handed.1.0.now ≡ marking → let e = call.handed.1.1.0 in
      (call.answer ≡ (images_number table marking else (on happen table marking e).number))
      × (call.left.1.0.now ≡ put_back call.answer (on happen table marking e).marking marking)
  happen_said call p q = rw (← p, ← q) call.promised

  tick_said : (call : PlainTick) → call.handed.0.now ≡ table → call.handed.1.0.now ≡ marking
      → (call.answer ≡ (images_number table marking else (on plain_tick table marking).number))
      × (call.left.1.0.now ≡ put_back call.answer (on plain_tick table marking).marking marking)
  tick_said call p q = rw (← p, ← q) call.promised

  pub check_said : (call : Check) → call.handed.0.now ≡ table → call.handed.1.0.now ≡ marking
      → call.answer ≡ (images_number table marking else check_number (on check table marking))
  check_said call p q =
      let said : call.answer ≡ (images_number table marking else (on told_check table marking).number) = rw (← p, ← q) call.promised.0 in
      said ∙ ap (λ (k : ToldCheck). images_number table marking else k.number) (sym (check_in_numbers_lem (table_of table) (marking_of table marking)))

  pub guarded_said : (call : GuardedTick) → call.handed.0.now ≡ table → call.handed.1.0.now ≡ marking
      → let lent = call.handed.1.1.0.now in
      (call.answer ≡ (guard_number table marking (length lent) else (on guarded_tick table marking).number))
      × (call.left.1.0.now ≡ put_back call.answer (on guarded_tick table marking).marking marking)
      × (call.left.1.1.0.now ≡ done call.answer (on caused table marking ++ drop (length (on caused table marking)) lent) lent)
      × (count call ≡ done call.answer (length (on caused table marking)) call.handed.1.1.1.0.now)
  guarded_said call p q =
      rw (← p, ← q) (call.promised.0, call.promised.1.0, call.promised.1.1.0, call.promised.1.1.1.0)

  pub sleep_said : (call : Sleep) → call.handed.0.now ≡ table → call.handed.1.0.now ≡ marking
      → let ticks = call.handed.1.1.0 in let lent = call.handed.1.1.1.0.now in
      let answer = on sleep_answer table marking ticks (length lent) in
      (call.answer ≡ (images_number table marking else answer.number)) × (call.left.1.0.now ≡ put_back call.answer answer.marking marking)
      × (call.left.1.1.1.0.now ≡ done call.answer (on sleep_list table marking ticks lent) lent)
      × (call.left.1.1.1.1.0.now ≡ done call.answer answer.count call.handed.1.1.1.1.0.now)
  sleep_said call p q =
      rw (← p, ← q) (call.promised.0, call.promised.1.0, call.promised.1.1.0, call.promised.1.1.1.0)

  -- what it tells where it is done
  pub places_said : (call : Sleep) → call.handed.0.now ≡ table → call.handed.1.0.now ≡ marking → call.answer ≡ 0
      → let ticks = call.handed.1.1.0 in let lent = call.handed.1.1.1.0.now in
      slept_places call ≡ take (on sleep_answer table marking ticks (length lent)).count (on sleep_list table marking ticks lent)
  places_said call p q h =
      let s = sleep_said call p q in
      ap₂ (λ (n : ℕ) (l : List ℕ). take n l) (rw h at s.3) (rw h at s.2)

  run_said : (call : Run) → call.handed.0.now ≡ table → call.handed.1.0.now ≡ marking
      → let answer = on run_bytes table marking call.handed.1.1.0.now (length call.handed.1.1.1.0.now) in
      let before = call.handed.1.1.1.0.now in
      (call.answer ≡ (images_number table marking else answer.number)) × (call.left.1.0.now ≡ put_back call.answer answer.marking marking)
      × (call.left.1.1.1.0.now ≡ done call.answer (on run_bytes_answers table marking call.handed.1.1.0.now before) before)
  run_said call p q = rw (← p, ← q) (call.promised.0, call.promised.1.0, call.promised.1.1)

-- what comes first, told twice by the same number, and then the rest
act_same : {one two : List Act} {number own : ℕ} (acts : List Act) → number ≡ own → one ≡ two → done own acts [] ++ one ≡ done number acts [] ++ two
act_same {one} {two} {number} {own} acts n e =
    ap (λ (l : List Act). done own acts [] ++ l) e ∙ ap (λ (k : ℕ). done k acts [] ++ two) (sym n)

-- steps that are played or not, with what they come to, and then the rest, told by the call's number
as_played : {t : Table} {m end : Marking} (others : List Step) (acts : List Act) (played : List Step) (came : List Act) {number own : ℕ} → number ≡ own
    → Along t m (done own played [] ++ others) end (done own came [] ++ acts)
    → Along t m (done number played [] ++ others) end (done number came [] ++ acts)
as_played {t} {m} {end} others acts played came n whole =
    subst (λ (k : ℕ). Along t m (done k played [] ++ others) end (done k came [] ++ acts)) (sym n) whole

-- a guarded tick, done or refused, and then the rest
guarded_on : (table marking end : List ℕ) (steps : List Step) (acts : List Act) (call : GuardedTick)
    → call.handed.0.now ≡ table → call.handed.1.0.now ≡ marking
    → images_number table marking ≡ 0
    → (images_number table call.left.1.0.now ≡ 0
    → (images_number table end ≡ 0) × Along (table_of table) (marking_of table call.left.1.0.now) steps (marking_of table end) acts)
    → (images_number table end ≡ 0)
    × Along (table_of table) (marking_of table marking) (done call.answer (step guarded_tick_kind 0 ∷ []) [] ++ steps) (marking_of table end)
    (done call.answer (then_pass (listed call)) [] ++ acts)
unfolding engineActs
guarded_on table marking end steps acts call p q read rest = go (eqb call.answer 0) refl
  where
    go : (b : Bool) → eqb call.answer 0 ≡ b
        → (images_number table end ≡ 0)
        × Along (table_of table) (marking_of table marking) (cond b (step guarded_tick_kind 0 ∷ []) [] ++ steps) (marking_of table end)
        (cond b (then_pass (listed call)) [] ++ acts)
    go true e =
        let s = guarded_said call p q in
        let h = eqb-true call.answer 0 e in
        let granted = tick_granted table marking call.answer _ _ _ _ _ _ s.0 s.1 s.2 s.3 h in
        let same = first_listed table marking call.answer _ _ _ _ _ _ s.0 s.1 s.2 s.3 h in
        let back = after_guarded table marking read call.answer call.left.1.0.now h granted s.1 in
        let then = rest back.0 in
        let a = subst (λ (k : Marking). Along (table_of table) k steps (marking_of table end) acts) back.1 then.1 in (
          then.0,
          record {
            calls = engine-guardedly (guarded_tick (table_of table) (marking_of table marking)) refl a.calls;
            same = rw granted (ap (λ (l : List Act). then_pass (engineListed (guarded_tick (table_of table) (marking_of table marking))) ++ l) a.same
                ∙ ap (λ (l : List ℕ). then_pass l ++ acts) (sym same));
          },
        )
    go false e =
        let stays : call.left.1.0.now ≡ marking = (guarded_said call p q).1 ∙ rw e in
        let then = rest (subst (λ (l : List ℕ). images_number table l ≡ 0) (sym stays) read) in
        (then.0, subst (λ (l : List ℕ). Along (table_of table) (marking_of table l) steps (marking_of table end) acts) stays then.1)

-- a chain of C's calls is a chain of the engine's, of the same steps and with the same acts
pub follows : {table marking end : List ℕ} {steps : List Step} (calls : Chained table marking steps end) → images_number table marking ≡ 0
    → (images_number table end ≡ 0) × Along (table_of table) (marking_of table marking) steps (marking_of table end) (acts_in calls)
unfolding acts_in engineActs
follows none read = (read, record { calls = engine-none; same = refl })
follows {table} (happened {marking} {end} {steps} call p q rest) read =
    let e = call.handed.1.1.0 in
    let s = happen_said call p q in
    let n = after_happen table marking read e call.answer call.left.1.0.now s.0 s.1 in
    let then = follows rest n.reads in
    let a = from table marking read n then.1 in (
      then.0,
      record {
        calls = engine-happened e (happen (table_of table) (marking_of table marking) e) refl a.calls;
        same = act_same (executes e ∷ []) n.told a.same;
      },
    )
follows {table} (ticked {marking} {end} {steps} call p q rest) read =
    let s = tick_said call p q in
    let n = after_tick table marking read call.answer call.left.1.0.now s.0 s.1 in
    let then = follows rest n.reads in
    let a = from table marking read n then.1 in (
      then.0,
      record {
        calls = engine-ticked (plain_tick (table_of table) (marking_of table marking)) refl a.calls;
        same = act_same (passes ∷ []) n.told a.same;
      },
    )
follows {table} (guardedly {marking} {end} {steps} call p q rest) read =
    guarded_on table marking end steps (acts_in rest) call p q read (λ r. follows rest r)
follows {table} (ran {marking} {end} {steps} call p q rest) read =
    let t = table_of table in
    let m = marking_of table marking in
    let bytes = call.handed.1.1.0.now in
    let room = length call.handed.1.1.1.0.now in
    let s = run_said call p q in
    let n = after_run table marking read bytes room call.answer call.left.1.0.now s.0 s.1 in
    let then = follows rest n.reads in
    let a = from table marking read n then.1 in (
      then.0,
      as_played steps (acts_in rest) (steps_in bytes) (history_of t m (steps_in bytes)) n.told (record {
        calls = engine-ran bytes room (run_bytes t m bytes room) refl a.calls;
        same = ap (λ (l : List Act). done (run_bytes t m bytes room).number (history_of t m (steps_in bytes)) [] ++ l) a.same;
      }),
    )
follows {table} (offered {marking} {end} {steps} call p q rest) read =
    let then = follows rest read in
    let preferred = call.handed.1.1.0.now in
    let fallback = call.handed.1.1.1.0.now in (
      then.0,
      record {
        calls = engine-offered preferred fallback (remedy (table_of table) (marking_of table marking) preferred fallback) refl then.1.calls;
        same = then.1.same;
      },
    )

-- what a C caller is answered where the images are read and the engine answers as it should
pub answered : (table marking : List ℕ) → images_number table marking ≡ 0 → EngineAnswered (table_of table) (marking_of table marking) → Answered table marking
unfolding guard_number
answered table marking read answers =
    let t = table_of table in
    let m = marking_of table marking in
    record {
      checked = λ call p q. check_said call p q ∙ rw (read, answers.checked (check t m) refl);
      ticks = λ call p q room.
          let s = guarded_said call p q in
          let tick = answers.ticks (guarded_tick t m) refl in
          let h : call.answer ≡ 0 = s.0 ∙ rw (read, le-ltb _ _ room) tick.not_refused in
          let same = first_listed table marking call.answer _ _ _ _ _ _ s.0 s.1 s.2 s.3 h in
          let counted = told_count_lem table marking call.answer _ _ _ _ _ _ s.0 s.1 s.2 s.3 h in
          record {
            not_refused = h;
            counted = ap (λ (l : List ℕ). length l) (same ∙ caused_is t m (guarded_tick t m) refl tick.not_refused) ∙ sym counted;
            room = omega (arith, counted, caused_length t m);
            past = later_left table marking call.answer _ _ _ _ _ _ s.0 s.1 s.2 s.3 h;
            caused = subst (Caused t m) (sym same) tick.caused;
            passed = put_marking table marking call.answer _ _ _ _ _ _ s.0 s.1 s.2 s.3 h
                ∙ ap marking_image (tick.passed ∙ ap (λ (l : List ℕ). time (effects t m l)) (sym same));
          };
      played = λ call p q h i b kind event.
          let s = run_said call p q in
          let bytes = call.handed.1.1.0.now in
          let lent = call.handed.1.1.1.0.now in
          run_bytes_grants t m (answers.checked (check t m) refl) bytes i b kind event lent call.left.1.1.1.0.now
          (run_bytes t m bytes (length lent)) refl (sym (s.0 ∙ else_done _ read) ∙ h) (s.2 ∙ rw h);
      heard = λ call p q b h.
          let e = call.handed.1.1.0 in
          (happen_said call p q).0 ∙ else_done _ read ∙ answers.heard e (happen t m e) refl b h;
      kept = λ {end} {steps} calls before rest split.
          let f = (follows calls read).1 in
          answers.kept f.calls before rest (f.same ∙ split);
    }

-- From images on which duty_check answers 0, any chain of the calls on the marking's buffer: its bytes are read at the end, as the marking that the
-- trace of the chain's steps ends with; what it comes to is that trace's history; and the caller is answered there, and along any further chain, as
-- in demand 3.
pub chained : (table marking end : List ℕ) (steps : List Step) (call : Check) → call.handed.0.now ≡ table → call.handed.1.0.now ≡ marking
    → call.answer ≡ 0 → (calls : Chained table marking steps end)
    → (images_number table end ≡ 0)
    × (marking_of table end ≡ end_of (table_of table) (marking_of table marking) steps)
    × (acts_in calls ≡ history_of (table_of table) (marking_of table marking) steps)
    × Answered table end
chained table marking end steps call p q answers-zero calls =
    let t = table_of table in
    let m = marking_of table marking in
    let both = both_done (images_number table marking) (check_number (check t m)) (sym (check_said call p q) ∙ answers-zero) in
    let f = follows calls both.0 in
    let c = chain t m (marking_of table end) steps (check t m) refl (accepts t m (read_judged table marking both.0) both.1) f.1.calls in
    (f.0, c.0, sym f.1.same ∙ c.1, answered table end f.0 c.2)

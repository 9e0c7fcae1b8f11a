-- For a caller who chains the engine's public calls: the chain comes to the trace of the same steps, so the statements hold for it, and are told
-- of the answers' fields. Assumes nothing.
use Rattle.std.specs.Prelude.{◌≡◌, Bool, not, cond, List, [], ◌∷◌, ◌++◌, ℕ, zero, suc, ◌<◌, ◌≤◌, ◌-◌, eqb, length, get_or, take, drop, replicate}
use Rattle.std.proofs.Math.Path.{refl, sym}
use Rattle.std.proofs.Common.{◌∙◌, ap, subst, append-nil, arith, drop_at, eqb-true, eq-eqb}
use Rattle.std.proofs.Math.Bool.{true, false}
use Rattle.std.proofs.Math.Seq.{split_at}
use Rattle.rules.specs.declared.Table.{Table}
use Rattle.rules.specs.declared.Marking.{Marking}
use Rattle.rules.specs.declared.Step.{Step}
use Rattle.rules.specs.Answers.{MarkingAnswer, GuardedAnswer}
use Rattle.rules.specs.CheckAnswer.{CheckAnswer, Accepts}
use Rattle.rules.specs.Counting.{times}
use Rattle.rules.specs.Numbers.{done}
use Rattle.rules.specs.Holds.{most_events, record_of}
use Rattle.rules.specs.Judge.{judged}
use Rattle.rules.specs.Effect.{effect}
use Rattle.rules.specs.Time.{is_due, any_due, due_set, time, due_answer, plain_tick}
use Rattle.rules.specs.Happen.{happen}
use Rattle.rules.specs.Closure.{closure_answer}
use Rattle.rules.specs.Check.{check}
use Rattle.rules.specs.Guard.{caused, guarded_tick}
use Rattle.rules.specs.Remedy.{effects}
use Rattle.rules.specs.Trace.{happen_kind, plain_tick_kind, guarded_tick_kind, step_number, step_done, stepped, end_of, run_number, run}
use Rattle.rules.specs.Trace.{steps_in, bytes_number, run_bytes}
use Rattle.rules.specs.Promised.{Promise}
use Rattle.rules.specs.History.{Act, executes, passes, then_pass, acts_of, history_of}
use Rattle.rules.specs.Calls.{step, Calls, none, happened, ticked, guardedly, ran, ran_bytes, offered, listed, acts_in}
use Rattle.rules.specs.Calls.{Caused, Ticked, Answered}
use Rattle.rules.proofs.Laws.Time.{none_due_yet, set_empty}
use Rattle.rules.proofs.Laws.Taken.{tick_listed}
use Rattle.rules.proofs.Laws.Trace.{end_append}
use Rattle.rules.proofs.Demand3.Facts.{effect_judged}
use Rattle.rules.proofs.Demand3.Accepts.{check_parts}
use Rattle.rules.proofs.Demand3.Leading.{history_append}
use Rattle.rules.proofs.Demand3.Keeping.{promised}
use Rattle.rules.proofs.Demand3.Statements.{still_accepts, deadline_kept, always_done}

-- what the answer of a guarded tick lists is what is caused
module _ (t : Table) (m : Marking) (accepted : check t m ≡ Accepts) (answer : GuardedAnswer) (is : answer ≡ guarded_tick t m) where
  abbrev causes : List ℕ
  causes = caused t m

  kept : Promise t m
  kept = promised t m accepted

  count_is : answer.count ≡ length causes
  count_is = ap (λ (a : GuardedAnswer). a.count) is ∙ kept.counted

  list_is : answer.caused ≡ causes ++ replicate (most_events - length causes) 0
  list_is = ap (λ (a : GuardedAnswer). a.caused) is ∙ kept.listed

  listed_is : listed answer ≡ causes
  listed_is = ap (λ (a : GuardedAnswer). listed a) is ∙ tick_listed t m ∙ rw kept.not_refused

-- what is caused at two places is caused twice
once_at : (l : List ℕ) (i : ℕ) → i < length l → 1 ≤ times (get_or l i 0) l
unfolding times
once_at [] i b = absurd (omega arith)
once_at (a ∷ l) zero b = rw (eq-eqb a a refl) (omega arith)
once_at (a ∷ l) (suc i) b = go (eqb (get_or l i 0) a) (once_at l i (omega (arith, b)))
  where
    go : (own : Bool) → 1 ≤ times (get_or l i 0) l → 1 ≤ cond own (suc (times (get_or l i 0) l)) (times (get_or l i 0) l)
    go true h = omega arith
    go false h = h

twice_at : (l : List ℕ) (i j : ℕ) → i < j → j < length l → get_or l i 0 ≡ get_or l j 0 → 2 ≤ times (get_or l j 0) l
unfolding times
twice_at [] i j a b e = absurd (omega arith)
twice_at (a ∷ l) i zero p b e = absurd (omega (arith, p))
twice_at (a ∷ l) zero (suc j) p b e = rw (eq-eqb (get_or l j 0) a (sym e)) (omega (arith, once_at l j (omega (arith, b))))
twice_at (a ∷ l) (suc i) (suc j) p b e = go (eqb (get_or l j 0) a) (twice_at l i j (omega (arith, p)) (omega (arith, b)) e)
  where
    go : (own : Bool) → 2 ≤ times (get_or l j 0) l → 2 ≤ cond own (suc (times (get_or l j 0) l)) (times (get_or l j 0) l)
    go true h = omega arith
    go false h = h

-- no event is due exactly where the due events are none
due_none : (m : Marking) → any_due m ≡ false → due_set m ≡ 0
unfolding any_due due_set
due_none m h = eqb-true (due_set m) 0 (set_empty (λ e. is_due (record_of m e)) m.events ∙ ap not h)

effects_judged : (t : Table) (m : Marking) (l : List ℕ) → judged t m ≡ 0 → judged t (effects t m l) ≡ 0
unfolding effects
effects_judged t m [] h = h
effects_judged t m (e ∷ l) h = effects_judged t (effect t m e) l (effect_judged t m e h)

-- the promise, in the words of the calls' answers
pub caused_told : (t : Table) (m : Marking) → check t m ≡ Accepts → Caused t m (caused t m)
unfolding due_answer closure_answer
caused_told t m accepted =
    let p = promised t m accepted in
    let l = caused t m in
    let judged_done = (check_parts t m accepted).0 in
    record {
      idle = λ due due_is none. p.idle (none_due_yet m (rw judged_done at (sym due_is ∙ none)));
      each = λ closed closed_is i e b here. rw (here, closed_is, judged_done) (p.each (take i l) (drop (suc i) l) (get_or l i 0) (split_at l i 0 b));
      once = λ i j a b e. omega (arith, twice_at l i j a b e, p.once (get_or l j 0));
      calm = λ due due_is. rw (due_is, effects_judged t m l judged_done) (refl, due_none (effects t m l) p.calm);
    }

ticks : (t : Table) (m : Marking) → check t m ≡ Accepts → (answer : GuardedAnswer) → answer ≡ guarded_tick t m → Ticked t m answer
ticks t m accepted answer is =
    let p = promised t m accepted in
    let l = caused t m in
    let counted = count_is t m accepted answer is in
    let same = listed_is t m accepted answer is in
    record {
      not_refused = ap (λ (a : GuardedAnswer). a.number) is ∙ p.not_refused;
      counted = ap (λ (k : List ℕ). length k) same ∙ sym counted;
      room = omega (arith, counted, p.room);
      past =
          ap (drop answer.count) (list_is t m accepted answer is)
          ∙ drop_at l (replicate (most_events - length l) 0) answer.count (sym counted)
          ∙ ap (λ (n : ℕ). replicate (most_events - n) 0) (sym counted);
      caused = subst (Caused t m) (sym same) (caused_told t m accepted);
      passed = ap (λ (a : GuardedAnswer). a.marking) is ∙ p.passed ∙ ap (λ (k : List ℕ). time (effects t m k)) (sym same);
    }

-- each call, on judged values that the check accepts, is its step, and comes to what its step comes to
module _ (t : Table) (m : Marking) (accepted : check t m ≡ Accepts) where
  happen_step : (e : ℕ) → (happen t m e).marking ≡ stepped t m (step happen_kind e)
  unfolding happen stepped step_number step_done
  happen_step e = rw (check_parts t m accepted).0

  happen_acts : (e : ℕ) → done (happen t m e).number (executes e ∷ []) [] ≡ acts_of t m (step happen_kind e)
  unfolding happen acts_of step_number
  happen_acts e = rw (check_parts t m accepted).0

  tick_step : (plain_tick t m).marking ≡ stepped t m (step plain_tick_kind 0)
  unfolding plain_tick stepped step_number step_done
  tick_step = rw (check_parts t m accepted).0

  tick_acts : done (plain_tick t m).number (passes ∷ []) [] ≡ acts_of t m (step plain_tick_kind 0)
  unfolding plain_tick acts_of step_number
  tick_acts = rw (check_parts t m accepted).0

  guarded_step : (guarded_tick t m).marking ≡ stepped t m (step guarded_tick_kind 0)
  unfolding guarded_tick stepped step_number step_done
  guarded_step = rw (accepted, (check_parts t m accepted).1)

  guarded_acts : done (guarded_tick t m).number (then_pass (listed (guarded_tick t m))) [] ≡ acts_of t m (step guarded_tick_kind 0)
  unfolding acts_of step_number
  guarded_acts =
      rw ((promised t m accepted).not_refused, (check_parts t m accepted).1) (ap then_pass (listed_is t m accepted (guarded_tick t m) refl))

-- a chain goes on: what comes first leads where its steps lead and comes to their history, and so does the rest
record Follows (t : Table) (m : Marking) (steps : List Step) (end : Marking) (acts : List Act) : Type 0 where
  leads : end ≡ end_of t m steps
  comes_to : acts ≡ history_of t m steps

module _ (t : Table) where
  abbrev Accepted : Marking → Type 0
  Accepted m = check t m ≡ Accepts

  joined : {m now end : Marking} {acts others : List Act} (first steps : List Step) → Accepted m → Follows t m first now acts
      → (Accepted now → Follows t now steps end others) → Follows t m (first ++ steps) end (acts ++ others)
  joined {m} {now} {end} {acts} {others} first steps accepted head rest =
      let tail = rest (subst Accepted (sym head.leads) (still_accepts t m accepted first)) in
      let there = ap (λ (k : Marking). end_of t k steps) head.leads in
      record {
        leads = tail.leads ∙ there ∙ sym (end_append t m first steps);
        comes_to =
            ap (λ (l : List Act). l ++ others) head.comes_to
            ∙ ap (λ (l : List Act). history_of t m first ++ l) (tail.comes_to ∙ ap (λ (k : Marking). history_of t k steps) head.leads)
            ∙ sym (history_append t m first steps);
      }

  -- one step
  one : {m now : Marking} {acts : List Act} (s : Step) → now ≡ stepped t m s → acts ≡ acts_of t m s → Follows t m (s ∷ []) now acts
  unfolding end_of history_of
  one {m} {now} {acts} s leads comes_to = record { leads = leads; comes_to = comes_to ∙ sym (append-nil (acts_of t m s)) }

  -- a trace, played or refused
  played : (m : Marking) (number : ℕ) (steps : List Step)
      → Follows t m (done number steps []) (done number (end_of t m steps) m) (done number (history_of t m steps) [])
  unfolding end_of history_of
  played m number steps = go (eqb number 0)
    where
      go : (b : Bool) → Follows t m (cond b steps []) (cond b (end_of t m steps) m) (cond b (history_of t m steps) [])
      go true = record { leads = refl; comes_to = refl }
      go false = record { leads = refl; comes_to = refl }

  -- an answer that is the one defined follows as that one does
  by_answer : {m : Marking} {A : Type 0} {answer told : A} (marking : A → Marking) (acts : A → List Act) (first : A → List Step) → answer ≡ told
      → Follows t m (first told) (marking told) (acts told) → Follows t m (first answer) (marking answer) (acts answer)
  by_answer {m} {A} marking acts first is f = subst (λ (a : A). Follows t m (first a) (marking a) (acts a)) (sym is) f

  follows : {m end : Marking} {steps : List Step} (calls : Calls t m steps end) → Accepted m → Follows t m steps end (acts_in calls)
  unfolding acts_in end_of history_of run run_bytes
  follows none accepted = record { leads = refl; comes_to = refl }
  follows (happened {m} {end} {steps} e answer is rest) accepted =
      let s = step happen_kind e in
      joined (s ∷ []) steps accepted
      (by_answer (λ (a : MarkingAnswer). a.marking) (λ a. done a.number (executes e ∷ []) []) (λ a. s ∷ []) is
      (one s (happen_step t m accepted e) (happen_acts t m accepted e)))
      (λ a. follows rest a)
  follows (ticked {m} {end} {steps} answer is rest) accepted =
      let s = step plain_tick_kind 0 in
      joined (s ∷ []) steps accepted
      (by_answer (λ (a : MarkingAnswer). a.marking) (λ a. done a.number (passes ∷ []) []) (λ a. s ∷ []) is
      (one s (tick_step t m accepted) (tick_acts t m accepted)))
      (λ a. follows rest a)
  follows (guardedly {m} {end} {steps} answer is rest) accepted =
      let s = step guarded_tick_kind 0 in
      joined (s ∷ []) steps accepted
      (by_answer (λ (a : GuardedAnswer). a.marking) (λ a. done a.number (then_pass (listed a)) []) (λ a. s ∷ []) is
      (one s (guarded_step t m accepted) (guarded_acts t m accepted)))
      (λ a. follows rest a)
  follows (ran {m} {end} {steps} list room answer is rest) accepted =
      joined (done answer.number list []) steps accepted
      (by_answer (λ (a : MarkingAnswer). a.marking) (λ a. done a.number (history_of t m list) []) (λ a. done a.number list []) is
      (played m (run_number t m list room) list))
      (λ a. follows rest a)
  follows (ran_bytes {m} {end} {steps} bytes room answer is rest) accepted =
      let list = steps_in bytes in
      joined (done answer.number list []) steps accepted
      (by_answer (λ (a : MarkingAnswer). a.marking) (λ a. done a.number (history_of t m list) []) (λ a. done a.number list []) is
      (played m (bytes_number t m bytes room) list))
      (λ a. follows rest a)
  follows (offered preferred fallback answer is rest) accepted = follows rest accepted

-- what a caller is answered where the check accepts
pub answered : (t : Table) (m : Marking) → check t m ≡ Accepts → Answered t m
unfolding end_of
answered t m accepted =
    record {
      checked = λ answer is. is ∙ accepted;
      ticks = ticks t m accepted;
      heard = λ e answer is b h. ap (λ (a : MarkingAnswer). a.number) is ∙ always_done t m accepted [] e b h;
      kept = λ {end} {steps} calls before rest split.
          deadline_kept t m accepted steps before rest (sym (follows t calls accepted).comes_to ∙ split);
    }

-- 5. From a marking that the check accepts, a caller's chain of calls ends where the trace of its steps ends and comes to that trace's history;
-- and what the caller is answered there, and along any further chain, is as in 1 to 4.
pub chain : (t : Table) (m end : Marking) (steps : List Step) → (answer : CheckAnswer) → answer ≡ check t m → answer ≡ Accepts
    → (calls : Calls t m steps end) → (end ≡ end_of t m steps) × (acts_in calls ≡ history_of t m steps) × Answered t end
chain t m end steps answer is accepts calls =
    let accepted : check t m ≡ Accepts = sym is ∙ accepts in
    let f = follows t calls accepted in
    (f.leads, f.comes_to, subst (Answered t) (sym f.leads) (answered t (end_of t m steps) (still_accepts t m accepted steps)))

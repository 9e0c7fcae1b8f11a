-- No call looks at unused places: tables and markings that agree on the places in use get answers that agree there. For any values, judged
-- 'done' or not: a relation that names an event which does not exist is refused before anything is read there. Assumes nothing.
use Rattle.std.specs.Prelude.{◌≡◌, refl, ℕ, zero, suc, ◌<◌, ◌≤◌, ◌+◌, ◌-◌, set}
use Rattle.std.proofs.Common.{◌∙◌, sym, subst, arith, length-set, get_or-set_other, ltb-true}
use Rattle.std.proofs.Math.Path.{ap, ap₂}
use Rattle.std.proofs.Math.Bool.{not}
use mathlib.Core.List.{List, [], ◌++◌}
use Rattle.std.proofs.Math.Dec.{ltb}
use Rattle.std.proofs.Math.ListN.{length, replicate, drop}
use Rattle.rules.specs.declared.Relation.{Relation}
use Rattle.rules.specs.declared.Table.{Table}
use Rattle.rules.specs.declared.Record.{Record}
use Rattle.rules.specs.declared.Marking.{Marking}
use Rattle.rules.specs.declared.Step.{Step}
use Rattle.rules.specs.Numbers.{◌if◌, ◌else◌, done, check_number}
use Rattle.rules.specs.Holds.{most_events, empty_relation, empty_record, with_records}
use Rattle.rules.specs.Pieces.{pieces}
use Rattle.rules.specs.Judge.{judged, event_number}
use Rattle.rules.specs.Image.{header_image, class_image, place_image, table_image, write_table_number, write_table}
use Rattle.rules.specs.Image.{event_image, marking_image, write_number, write_marking}
use Rattle.rules.specs.Enabled.{enabled_answer}
use Rattle.rules.specs.Time.{due_answer, plain_tick}
use Rattle.rules.specs.Happen.{happen}
use Rattle.rules.specs.Margin.{margin}
use Rattle.rules.specs.HoldUp.{hold_up}
use Rattle.rules.specs.Chain.{chain, chain_number, chain_answer, chain_list}
use Rattle.rules.specs.Closure.{closure_answer}
use Rattle.rules.specs.Check.{check}
use Rattle.rules.specs.Guard.{caused, guarded_tick}
use Rattle.rules.specs.Remedy.{remedy_number, remedy}
use Rattle.rules.specs.Quiet.{quiet_answer}
use Rattle.rules.specs.Sleep.{most_ticks, Entry, sleep_check, sleep_number, sleep_answer, places_of, sleep_list}
use Rattle.rules.specs.Trace.{answers_of, run, run_answers, steps_in, run_bytes, run_bytes_answers}
use Rattle.rules.specs.Unused.{SameTable, SameMarking, SameAnswer, SameGuarded, SameSlept, NoneLooks}
use Rattle.rules.proofs.Laws.Tests.{not_false}
use Rattle.rules.proofs.Laws.Numbers.{if_done, both_done, by_number, done_alike}
use Rattle.rules.proofs.Laws.Judge.{good}
use Rattle.rules.proofs.Laws.Granted.{event_exists}
use Rattle.rules.proofs.Laws.UnusedRules.{table_judged_lem, marking_judged_lem, marking_judged_for, both_judged, effect_agrees, time_agrees, due_set_alike}
use Rattle.rules.proofs.Laws.UnusedRules.{quiet_alike}
use Rattle.rules.proofs.Laws.UnusedRules.{Agree, right_alike, enabled_alike, hold_up_alike, chain_alike, closure_alike, verdict_alike}
use Rattle.rules.proofs.Laws.UnusedTurns.{else_alike, happen_alike, plain_tick_alike}
use Rattle.rules.proofs.Laws.UnusedTurns.{caused_alike, after_guarded, after_sleep, slept_caused_alike}
use Rattle.rules.proofs.Laws.UnusedTurns.{shortest_alike, remedy_number_alike, after_trace, answers_alike}

-- An unused place may hold anything: with any other relation past the count, any other record past the event count, a table and a marking agree
-- with what they were
pub any_relation : (t : Table) (k : ℕ) (r : Relation) → t.count ≤ k → SameTable t (record {
  relations = set t.relations k r;
  controllable = t.controllable;
  causable = t.causable;
  events = t.events;
  count = t.count;
  firm = t.firm;
})
any_relation t k r past = record {
  same_events = refl;
  same_count = refl;
  same_relation = λ j b. sym (get_or-set_other t.relations k j r empty_relation (λ e. omega arith));
  same_controllable = λ e b. refl;
  same_causable = λ e b. refl;
  same_firm = refl;
}

pub any_record : (m : Marking) (e : ℕ) (r : Record) → m.events ≤ e → SameMarking m (with_records m (set m.records e r))
any_record m e r past = record {
  same_length = sym (length-set m.records e r);
  same_events = refl;
  same_record = λ x b. sym (get_or-set_other m.records e x r empty_record (λ q. omega arith));
}

-- pieces that are the same, joined
pieces_alike : (f g : ℕ → List ℕ) (at n : ℕ) → ((i : ℕ) → i < at + n → f i ≡ g i) → pieces f at n ≡ pieces g at n
unfolding pieces
pieces_alike f g at zero h = refl
pieces_alike f g at (suc n) h = ap₂ ◌++◌ (h at (omega arith)) (pieces_alike f g (suc at) n (λ i b. h i (omega arith)))

-- a table written
module _ {t u : Table} (same : SameTable t u) where
  table_image_alike : table_image t ≡ table_image u
  unfolding header_image class_image
  table_image_alike =
      let header : header_image t ≡ header_image u = rw (same.same_events, same.same_count, same.same_firm) in
      let classes =
      pieces_alike (class_image t) (class_image u) 0 t.events
      (λ e b. rw (same.same_controllable e (omega arith), same.same_causable e (omega arith)))
      ∙ ap (pieces (class_image u) 0) same.same_events in
      let relations =
      pieces_alike (place_image t) (place_image u) 0 t.count (λ k b. rw (same.same_relation k (omega arith)))
      ∙ ap (pieces (place_image u) 0) same.same_count in
      ap₂ ◌++◌ (ap₂ ◌++◌ header classes) relations

  write_table_number_same : (room : ℕ) → write_table_number t room ≡ write_table_number u room
  unfolding write_table_number
  write_table_number_same room = rw (table_judged_lem same, same.same_events, same.same_count)

  write_table_same : (buffer : List ℕ) → write_table t buffer ≡ write_table u buffer
  unfolding write_table
  write_table_same buffer = rw (write_table_number_same (length buffer), table_image_alike, same.same_events, same.same_count)

-- a marking written alone
module _ {m n : Marking} (same : SameMarking m n) where
  image_alike : marking_image m ≡ marking_image n
  image_alike =
      pieces_alike (event_image m) (event_image n) 0 m.events (λ e b. rw (same.same_record e (omega arith)))
      ∙ ap (pieces (event_image n) 0) same.same_events

  write_number_same : (room : ℕ) → write_number m room ≡ write_number n room
  unfolding write_number
  write_number_same room = rw (marking_judged_lem same, same.same_events)

  write_same : (buffer : List ℕ) → write_marking m buffer ≡ write_marking n buffer
  unfolding write_marking
  write_same buffer = rw (write_number_same (length buffer), image_alike, same.same_events)

-- markings that agree, of what is done or of a refusal
done_agrees : (number : ℕ) {p q m n : Marking} → SameMarking m n → (number ≡ 0 → SameMarking p q) → SameMarking (done number p m) (done number q n)
done_agrees number same h = by_number number (λ z. rw z (h z)) (λ r. rw r same)

module _ {t u : Table} {m n : Marking} (tables : SameTable t u) (markings : SameMarking m n) where
  -- judged 'done', every event that a relation names is in use
  agree : judged t m ≡ 0 → Agree t u m n
  agree h =
      let g = good t m h in
      record { tables = tables; markings = markings; table_good = g.table_good; whole = g.marking_good.same_events }

  agree_else : (next : ℕ) → (judged t m else next) ≡ 0 → Agree t u m n
  agree_else next h = agree (both_done (judged t m) next h).0

  -- a number that is asked for of judged values only
  number_alike : (a b : ℕ) → (Agree t u m n → a ≡ b) → (judged t m else a) ≡ (judged u n else b)
  number_alike a b h = else_alike (judged t m) (judged u n) a b (both_judged tables markings) (λ z. h (agree z))

  answered : (i j : ℕ) {p q : Marking} → i ≡ j → (i ≡ 0 → SameMarking p q)
      → SameAnswer (record { number = i; marking = done i p m }) (record { number = j; marking = done j q n })
  answered i j {p = p} {q = q} e h = record {
    same_number = e;
    same_marking = subst (λ (k : ℕ). SameMarking (done i p m) (done k q n)) e (done_agrees i markings h);
  }

  event_number_lem : (e : ℕ) → (judged t m else event_number t e) ≡ (judged u n else event_number u e)
  event_number_lem e = number_alike (event_number t e) (event_number u e) (λ a. rw tables.same_events)

  event_in_use : (e : ℕ) → (judged t m else event_number t e) ≡ 0 → e < t.events
  event_in_use e h = event_exists t e (both_done (judged t m) (event_number t e) h).1

  enabled_same : (e : ℕ) → enabled_answer t m e ≡ enabled_answer u n e
  unfolding enabled_answer
  enabled_same e =
      by_number (judged t m else event_number t e)
      (λ z. rw (← event_number_lem e, enabled_alike (agree_else _ z) e (event_in_use e z)))
      (λ r. rw (← event_number_lem e, r))

  due_same : due_answer t m ≡ due_answer u n
  unfolding due_answer
  due_same = rw (both_judged tables markings, due_set_alike markings)

  pub quiet_same : quiet_answer t m ≡ quiet_answer u n
  unfolding quiet_answer
  quiet_same = rw (both_judged tables markings, quiet_alike markings most_ticks)

  happen_same : (e : ℕ) → SameAnswer (happen t m e) (happen u n e)
  unfolding happen
  happen_same e = answered _ _ (number_alike _ _ (λ a. happen_alike a e)) (λ z. effect_agrees tables markings e)

  plain_tick_same : SameAnswer (plain_tick t m) (plain_tick u n)
  unfolding plain_tick
  plain_tick_same = answered _ _ (number_alike _ _ plain_tick_alike) (λ z. time_agrees markings)

  margin_same : (k : ℕ) → margin t m k ≡ margin u n k
  unfolding margin
  margin_same k = by_number (judged t m else 8 if not (ltb k t.count)) (λ z. granted z) (λ r. rw (← number, r))
    where
      number : (judged t m else 8 if not (ltb k t.count)) ≡ (judged u n else 8 if not (ltb k u.count))
      number = number_alike _ _ (λ a. rw tables.same_count)

      granted : (judged t m else 8 if not (ltb k t.count)) ≡ 0 → margin t m k ≡ margin u n k
      granted z =
          let exists = if_done 7 (not (ltb k t.count)) (both_done (judged t m) _ z).1 in
          let used : k < t.count = ltb-true k t.count (not_false (ltb k t.count) exists) in
          rw (← number, right_alike (agree_else _ z) k used, tables.same_relation k used)

  hold_up_same : (e : ℕ) → hold_up t m e ≡ hold_up u n e
  unfolding hold_up
  hold_up_same e =
      by_number (judged t m else event_number t e)
      (λ z. rw (← event_number_lem e, hold_up_alike (agree_else _ z) e (event_in_use e z)))
      (λ r. rw (← event_number_lem e, r))

  chain_number_same : (e room : ℕ) → chain_number t m e room ≡ chain_number u n e room
  unfolding chain_number
  chain_number_same e room = number_alike _ _ (λ a. rw tables.same_events)

  -- a granted chain
  chain_granted : (e room : ℕ) → chain_number t m e room ≡ 0 → chain t m e ≡ chain u n e
  unfolding chain_number
  chain_granted e room z =
      let p = both_done (judged t m) _ z in
      chain_alike (agree p.0) e (event_exists t e (both_done (event_number t e) _ p.1).0)

  chain_same : (e room : ℕ) → chain_answer t m e room ≡ chain_answer u n e room
  unfolding chain_answer
  chain_same e room =
      by_number (chain_number t m e room) (λ z. rw (← chain_number_same e room, chain_granted e room z)) (λ r. rw (← chain_number_same e room, r))

  chain_list_same : (e : ℕ) (list : List ℕ) → chain_list t m e list ≡ chain_list u n e list
  unfolding chain_list
  chain_list_same e list =
      by_number (chain_number t m e (length list)) (λ z. rw (← chain_number_same e (length list), chain_granted e (length list) z))
      (λ r. rw (← chain_number_same e (length list), r))

  closure_same : closure_answer t m ≡ closure_answer u n
  unfolding closure_answer
  closure_same =
      by_number (judged t m) (λ z. rw (← both_judged tables markings, closure_alike (agree z))) (λ r. rw (← both_judged tables markings, r))

  check_same : check t m ≡ check u n
  unfolding check
  check_same = by_number (judged t m) (λ z. rw (← both_judged tables markings, verdict_alike (agree z))) (λ r. rw (← both_judged tables markings, r))

  accepted : check_number (check t m) ≡ 0 → Agree t u m n
  unfolding check
  accepted h = agree (by_number (judged t m) (λ z. z) (λ r. rw r at h))

  guarded_tick_same : SameGuarded (guarded_tick t m) (guarded_tick u n)
  unfolding guarded_tick
  guarded_tick_same = rw (← check_same) record {
    same_number = refl;
    same_reason = refl;
    same_place = refl;
    same_caused = ap (λ (events : List ℕ). events ++ replicate (most_events - length events) 0) events;
    same_count = ap length events;
    same_marking = done_agrees (check_number (check t m)) markings (λ z. (after_guarded (accepted z)).markings);
  }
    where
      events : done (check_number (check t m)) (caused t m) [] ≡ done (check_number (check t m)) (caused u n) []
      events = done_alike (check_number (check t m)) (caused t m) (caused u n) [] (λ z. caused_alike (accepted z))

  remedies_same : (preferred fallback : List ℕ) → remedy t m preferred fallback ≡ remedy u n preferred fallback
  unfolding remedy
  remedies_same preferred fallback = by_number (judged t m else remedy_number t m preferred fallback) (λ z. granted z) (λ r. rw (← number, r))
    where
      number : (judged t m else remedy_number t m preferred fallback) ≡ (judged u n else remedy_number u n preferred fallback)
      number = number_alike _ _ (λ a. remedy_number_alike a preferred fallback)

      granted : (judged t m else remedy_number t m preferred fallback) ≡ 0 → remedy t m preferred fallback ≡ remedy u n preferred fallback
      granted z = let a = agree_else _ z in rw (← number, shortest_alike a preferred, shortest_alike a fallback)

  sleep_check_same : (ticks : ℕ) → sleep_check t m ticks ≡ sleep_check u n ticks
  unfolding sleep_check
  sleep_check_same ticks =
      by_number (judged t m else 14 if ltb most_ticks ticks) (λ z. rw (← number, verdict_alike (agree_else _ z))) (λ r. rw (← number, r))
    where
      number : (judged t m else 14 if ltb most_ticks ticks) ≡ (judged u n else 14 if ltb most_ticks ticks)
      number = number_alike _ _ (λ a. refl)

  sleep_agrees : (ticks : ℕ) → check_number (sleep_check t m ticks) ≡ 0 → Agree t u m n
  unfolding sleep_check
  sleep_agrees ticks h = agree_else _ (by_number (judged t m else 14 if ltb most_ticks ticks) (λ z. z) (λ r. rw r at h))

  sleep_number_same : (ticks room : ℕ) → sleep_number t m ticks room ≡ sleep_number u n ticks room
  unfolding sleep_number
  sleep_number_same ticks room =
      else_alike (check_number (sleep_check t m ticks)) (check_number (sleep_check u n ticks)) _ _ (ap check_number (sleep_check_same ticks))
      (λ z. rw (slept_caused_alike (sleep_agrees ticks z) ticks))

  -- minutes that are slept through
  sleep_granted : (ticks room : ℕ) → sleep_number t m ticks room ≡ 0 → Agree t u m n
  unfolding sleep_number
  sleep_granted ticks room z = sleep_agrees ticks (both_done (check_number (sleep_check t m ticks)) _ z).0

  pub sleep_same : (ticks room : ℕ) → SameSlept (sleep_answer t m ticks room) (sleep_answer u n ticks room)
  unfolding sleep_answer
  sleep_same ticks room = rw (← sleep_check_same ticks, ← sleep_number_same ticks room) record {
    same_number = refl;
    same_reason = refl;
    same_place = refl;
    same_count =
        done_alike (sleep_number t m ticks room) _ _ 0 (λ z. ap (λ (l : List Entry). length l) (slept_caused_alike (sleep_granted ticks room z) ticks));
    same_marking = done_agrees (sleep_number t m ticks room) markings (λ z. (after_sleep (sleep_granted ticks room z) ticks).markings);
  }

  pub sleep_list_same : (ticks : ℕ) (list : List ℕ) → sleep_list t m ticks list ≡ sleep_list u n ticks list
  unfolding sleep_list
  sleep_list_same ticks list =
      rw (← sleep_number_same ticks (length list))
      (done_alike (sleep_number t m ticks (length list)) _ _ list
      (λ z. ap (λ (l : List Entry). places_of l ++ drop (length l) list) (slept_caused_alike (sleep_granted ticks (length list) z) ticks)))

  run_same : (steps : List Step) (room : ℕ) → SameAnswer (run t m steps room) (run u n steps room)
  unfolding run
  run_same steps room = answered _ _ (number_alike _ _ (λ a. refl)) (λ z. (after_trace (agree_else _ z) steps).markings)

  run_bytes_same : (bytes : List ℕ) (room : ℕ) → SameAnswer (run_bytes t m bytes room) (run_bytes u n bytes room)
  unfolding run_bytes
  run_bytes_same bytes room = answered _ _ (number_alike _ _ (λ a. refl)) (λ z. (after_trace (agree_else _ z) (steps_in bytes)).markings)

  -- the runner's buffer: answers before what it held, where the trace is granted
  buffer_same : (next : ℕ) (steps : List Step) (behind buffer : List ℕ)
      → done (judged t m else next) (answers_of t m steps ++ behind) buffer ≡ done (judged u n else next) (answers_of u n steps ++ behind) buffer
  buffer_same next steps behind buffer =
      done_alike (judged t m else next) _ _ buffer (λ z. ap (λ (answers : List ℕ). answers ++ behind) (answers_alike (agree_else next z) steps))
      ∙ ap (λ (number : ℕ). done number (answers_of u n steps ++ behind) buffer) (number_alike next next (λ a. refl))

  run_answers_same : (steps : List Step) (buffer : List ℕ) → run_answers t m steps buffer ≡ run_answers u n steps buffer
  unfolding run_answers
  run_answers_same steps buffer = buffer_same _ steps _ buffer

  run_bytes_answers_same : (bytes buffer : List ℕ) → run_bytes_answers t m bytes buffer ≡ run_bytes_answers u n bytes buffer
  unfolding run_bytes_answers
  run_bytes_answers_same bytes buffer = buffer_same _ (steps_in bytes) _ buffer

-- No call looks at unused places
pub none_looks : {t u : Table} {m n : Marking} → SameTable t u → SameMarking m n → NoneLooks t u m n
none_looks tables markings = record {
  of_write_table_number = write_table_number_same tables;
  of_write_table = write_table_same tables;
  of_write_number = write_number_same markings;
  of_write_marking = write_same markings;
  of_judge_table = table_judged_lem tables;
  of_judge_marking = marking_judged_for markings;
  of_enabled = enabled_same tables markings;
  of_due = due_same tables markings;
  of_happen = happen_same tables markings;
  of_plain_tick = plain_tick_same tables markings;
  of_margin = margin_same tables markings;
  of_hold_up = hold_up_same tables markings;
  of_chain = chain_same tables markings;
  of_chain_list = chain_list_same tables markings;
  of_closure = closure_same tables markings;
  of_check = check_same tables markings;
  of_guarded_tick = guarded_tick_same tables markings;
  of_remedies = remedies_same tables markings;
  of_run = run_same tables markings;
  of_run_answers = run_answers_same tables markings;
  of_run_bytes = run_bytes_same tables markings;
  of_run_bytes_answers = run_bytes_answers_same tables markings;
}

-- The worked cases of docs/RULES.md, a case for each mistake that looks reasonable, and cases that a promise turns on, by
-- one statement over a table of cases: each answer is computed from the definitions and is the one that the paper tells. Assumes nothing.
use Rattle.std.specs.Prelude.{◌≡◌, refl, Bool, true, false, cond, List, [], ◌∷◌, ◌++◌, map, ℕ, ◌^◌, ◌+◌, ◌-◌, eqb, pos, negsuc, length, replicate}
use Rattle.rules.specs.declared.Relation.{Relation}
use Rattle.rules.specs.declared.Table.{Table}
use Rattle.rules.specs.declared.Record.{Record}
use Rattle.rules.specs.declared.Marking.{Marking}
use Rattle.rules.specs.declared.Step.{Step}
use Rattle.rules.specs.Answers.{MarkingAnswer, EnabledAnswer, SetAnswer, ClosureAnswer, ChainAnswer, ToldMargin, ToldHoldUp, ToldCheck, GuardedAnswer, RemedyAnswer}
use Rattle.rules.specs.Rest.{Never as never, By as byTicks}
use Rattle.rules.specs.MarginAnswer.{MarginAnswer, NotACondition, Ignored, Never, By}
use Rattle.rules.specs.HoldUpAnswer.{HoldUpAnswer, Enabled, EnabledUnless, Excluded, Blocked}
use Rattle.rules.specs.CheckAnswer.{CheckAnswer, Accepts, Rejects}
use Rattle.rules.specs.Counting.{every, some, lowest, how_many, repeated, places_from, below_from}
use Rattle.rules.specs.Numbers.{first_of}
use Rattle.rules.specs.EventSet.{has, with_event, set_of, size_of, lowest_of}
use Rattle.rules.specs.Holds.{count_limit, empty_marking, record_of}
use Rattle.rules.specs.Fields.{field, bit, bytes_of}
use Rattle.rules.specs.Pieces.{pieces}
use Rattle.rules.specs.Judge.{time_fits, relation_number, table_number, state_fits, count_fits_lem, record_fits, marking_number, marking_number_for, judged}
use Rattle.rules.specs.Image.{relation_at, relation_image_number, table_image_number, table_in, read_table, record_at, marking_image_number, read_marking}
use Rattle.rules.specs.Image.{header_image, class_byte, class_image, relation_image, write_table_number, write_table, record_image, write_number, write_marking}
use Rattle.rules.specs.Image.{fresh}
use Rattle.rules.specs.Carrying.{carried_at, carried, carry_number, carry_marking}
use Rattle.rules.specs.Enabled.{stops, blocks, is_enabled, enabled_answer}
use Rattle.rules.specs.Effect.{with_deadline, excludes, includes, given, smallest, executed, with_inclusion, effect_at, effect}
use Rattle.rules.specs.Time.{is_due, any_due, due_set, later, time, plain_tick_number, plain_tick, due_answer}
use Rattle.rules.specs.Happen.{happen_number, happen}
use Rattle.rules.specs.Margin.{rest_of, margin_of, margin, told_margin}
use Rattle.rules.specs.HoldUp.{would_block, hold_up_of, hold_up, told_hold_up}
use Rattle.rules.specs.Chain.{Link, link, along, visit, chain, chain_number, chain_answer, places_of, chain_list}
use Rattle.rules.specs.Closure.{busy, follows, widened, widened_fully, closure, closure_answer}
use Rattle.rules.specs.Check.{unreportable, uncausable, waiting, awaited, on_cycle, reopening, reviving, verdict, check, reason_of, place_of, told_check}
use Rattle.rules.specs.Guard.{holds_back, needed, ready, order_of, taken, taken_all, executed_of, caused, guarded, guarded_tick}
use Rattle.rules.specs.Remedy.{in_turn, effects, discharges, shortest, remedy_number, remedy}
use Rattle.rules.specs.Trace.{guarded_tick_kind, step_number, step_done, stepped, end_of, answers_of, trace_number, run, run_answers}
use Rattle.rules.specs.Trace.{steps_in, run_bytes, run_bytes_answers}
use Rattle.rules.specs.Station.{station, longest_output, heard_number, heard_bytes, heard_output}
use Rattle.rules.specs.Images.{table_of, marking_of, images_number, fields_number, fields_told}
use Rattle.rules.specs.Building.{relation_from, numbers_number, table_from, build_number, build, relation_told_number, relation_told, class_told_number}
use Rattle.rules.specs.Shop as shop

-- A case: what is asked, of a table and of the marking after some steps from another, and what the paper tells.
pub data Question : Type 0 where
  checked : Question
  closed : Question
  happens : ℕ → Question
  held : ℕ → Question
  ticked : Question
  guardedly : Question
  offered : List ℕ → List ℕ → Question
  margins : ℕ → Question
  state : ℕ → Question
  state_bytes : ℕ → Question
  caused_along : List Step → Question
  image_read : ℕ → List ℕ → Question
  table_buffer : List ℕ → Question
  table_written : ℕ → Question
  buffer_written : List ℕ → Question
  started_fresh : ℕ → Question
  table_judged : Question
  marking_judged : ℕ → Question
  size_asked : ℕ → Question
  lowest_asked : ℕ → Question
  enabled_now : ℕ → Question
  due_now : Question
  aged : ℕ → Question
  run_of : List ℕ → ℕ → Question
  run_buffer : List ℕ → List ℕ → Question
  steps_of : List Step → ℕ → Question
  steps_buffer : List Step → List ℕ → Question
  station_of : List ℕ → Question
  station_number : List ℕ → ℕ → ℕ → Question
  station_buffer : List ℕ → ℕ → List ℕ → Question
  margin_told : ℕ → Question
  hold_up_told : ℕ → Question
  check_told : Question
  record_told : List ℕ → List ℕ → ℕ → List ℕ → Question
  build_of : ℕ → ℕ → List ℕ → List ℕ → ℕ → Question
  build_buffer : ℕ → ℕ → List ℕ → List ℕ → List ℕ → Question
  firm_asked : List ℕ → Question
  relation_asked : List ℕ → ℕ → List ℕ → Question
  class_asked : List ℕ → ℕ → Question
  carry_of : ℕ → List ℕ → ℕ → Question
  carry_buffer : ℕ → List ℕ → List ℕ → Question
  chain_of : ℕ → ℕ → Question
  chain_buffer : ℕ → List ℕ → Question

pub data Answer : Type 0 where
  verdicts : CheckAnswer → Answer
  set : SetAnswer → Answer
  closes : ClosureAnswer → Answer
  number : ℕ → Answer
  hold : HoldUpAnswer → Answer
  passed : GuardedAnswer → Answer
  remedies : RemedyAnswer → Answer
  by : MarginAnswer → Answer
  is : Record → Answer
  bytes : List ℕ → Answer
  events : List ℕ → Answer
  marks : MarkingAnswer → Answer
  enables : EnabledAnswer → Answer
  chained : ChainAnswer → Answer
  told_by : ToldMargin → Answer
  told_hold : ToldHoldUp → Answer
  told_verdict : ToldCheck → Answer

pub record Case : Type 0 where
  pub table : Table
  pub marking : Marking
  pub asked : Question
  pub told : Answer

-- the events that the guarded ticks of a trace cause, in order
unfoldable pub caused_in : Table → Marking → List Step → List ℕ
caused_in t m [] = []
caused_in t m (s ∷ rest) = cond (eqb s.kind guarded_tick_kind) (caused t m) [] ++ caused_in t (stepped t m s) rest

unfoldable pub answer : Table → Marking → Question → Answer
answer t m checked = verdicts (check t m)
answer t m closed = closes (closure_answer t m)
answer t m (happens e) = marks (happen t m e)
answer t m (held e) = hold (hold_up t m e)
answer t m ticked = number (plain_tick t m).number
answer t m guardedly = passed (guarded_tick t m)
answer t m (offered preferred fallback) = remedies (remedy t m preferred fallback)
answer t m (margins k) = by (margin t m k)
answer t m (state e) = is (record_of m e)
answer t m (state_bytes e) = bytes (record_image (record_of m e))
answer t m (caused_along steps) = events (caused_in t m steps)
answer t m (image_read n image) = marks (read_marking n image)
answer t m (table_buffer buffer) = bytes (write_table t buffer)
answer t m (table_written room) = number (write_table_number t room)
answer t m (buffer_written buffer) = bytes (write_marking m buffer)
answer t m (started_fresh n) = marks (fresh n)
answer t m table_judged = number (table_number t)
answer t m (marking_judged n) = number (marking_number_for n m)
answer t m (size_asked w) = number (size_of w)
answer t m (lowest_asked w) = number (lowest_of w)
answer t m (enabled_now e) = enables (enabled_answer t m e)
answer t m due_now = set (due_answer t m)
answer t m (aged e) = is (record_of (plain_tick t m).marking e)
answer t m (run_of steps room) = marks (run_bytes t m steps room)
answer t m (run_buffer steps buffer) = bytes (run_bytes_answers t m steps buffer)
answer t m (steps_of steps room) = marks (run t m steps room)
answer t m (steps_buffer steps buffer) = bytes (run_answers t m steps buffer)
answer t m (station_of input) = bytes (station input)
answer t m (station_number kept beyond room) = number (heard_number (length kept) beyond room)
answer t m (station_buffer kept beyond output) = bytes (heard_output kept beyond output)
answer t m (margin_told k) = told_by (told_margin t m k)
answer t m (hold_up_told e) = told_hold (told_hold_up t m e)
answer t m check_told = told_verdict (told_check t m)
answer t m (record_told table marking e places) = bytes (fields_told table marking e places)
answer t m (build_of n firm classes numbers room) = number (build_number n firm classes numbers room)
answer t m (build_buffer n firm classes numbers buffer) = bytes (build n firm classes numbers buffer)
answer t m (firm_asked table) = bytes ((read_table table).number ∷ bit (table_of table).firm ∷ [])
answer t m (relation_asked table k places) = bytes (relation_told table k places)
answer t m (carry_of n old room) = number (carry_number n old room)
answer t m (carry_buffer n old buffer) = bytes (carry_marking n old buffer)
answer t m (chain_of e room) = chained (chain_answer t m e room)
answer t m (chain_buffer e list) = bytes (chain_list t m e list)
answer t m (class_asked table e) = bytes (class_told_number table e ∷ class_byte (table_of table) e ∷ [])

abbrev asks : Table → Marking → Question → Answer → Case
asks t m q a = record { table = t; marking = m; asked = q; told = a }

-- of the shop's table P, after some steps from its start
abbrev after : List Step → Question → Answer → Case
after steps = asks shop.P (end_of shop.P shop.start steps)

abbrev set_is : ℕ → Answer
set_is w = set (record { number = 0; set = w })

abbrev closure_is : ℕ → ℕ → Answer
closure_is w size = closes (record { number = 0; set = w; size = size })

abbrev remedy_is : ℕ → Bool → ℕ → Answer
remedy_is n second l = remedies (record { number = n; fallback = second; length = l })

abbrev causes : List ℕ → Marking → Answer
causes es m = passed (record { number = 0; reason = 0; place = 0; caused = es ++ replicate (64 - length es) 0; count = length es; marking = m })

abbrev refusal : ℕ → Marking → MarkingAnswer
refusal n m = record { number = n; marking = m }

unfoldable pub worked : List Case
worked =
    -- P is accepted; closure {1, 2, 4}
    after [] checked (verdicts Accepts)
    ∷ after [] closed (closure_is (2 ^ 1 + 2 ^ 2 + 2 ^ 4) 3)
    -- after leak, flush happens: 10, hold-up relation 1
    ∷ after (shop.leak ∷ []) (happens 1) (marks (refusal 10 (end_of shop.P shop.start (shop.leak ∷ []))))
    ∷ after (shop.leak ∷ []) (held 1) (hold (Blocked 1))
    -- leak, three guarded ticks: none caused; flush deadline 0. A plain tick: 11. A guarded tick: causes 2, 4, 1
    ∷ after [] (caused_along shop.leak_then_three) (events [])
    ∷ after shop.leak_then_three (state 1) (is (shop.pending_within true 0))
    ∷ after shop.leak_then_three ticked (number 11)
    ∷ after shop.leak_then_three guardedly
    (causes (2 ∷ 4 ∷ 1 ∷ []) (shop.marking (shop.happened 4 ∷ shop.happened 1 ∷ shop.happened 1 ∷ shop.idle ∷ shop.happened 1 ∷ [])))
    -- there, preferred 1, 2, 4 and fallback 4, 2, 1, 2: the first three of the fallback
    ∷ after shop.leak_then_three (offered (1 ∷ 2 ∷ 4 ∷ []) (4 ∷ 2 ∷ 1 ∷ 2 ∷ [])) (remedy_is 0 true 3)
    -- there, both lists holding only 4: 13
    ∷ after shop.leak_then_three (offered (4 ∷ []) (4 ∷ [])) (remedy_is 13 false 0)
    -- leak, one guarded tick, standby, five guarded ticks: none caused; flush excluded, deadline 0. Leak again: included, deadline 3
    ∷ after [] (caused_along shop.leak_standby_five) (events [])
    ∷ after shop.leak_standby_five (state 1) (is (shop.pending_within false 0))
    ∷ after (shop.leak_standby_five ++ (shop.leak ∷ [])) (state 1) (is (shop.pending_within true 3))
    -- isolate not causable: reason 2, event 2
    ∷ asks shop.P-uncausable shop.start checked (verdicts (Rejects 2 2))
    -- relation 1 with time 1: reason 3, relation 1
    ∷ asks shop.P-timed shop.start checked (verdicts (Rejects 3 1))
    -- added relation 6, isolate condition flush 0: reason 4, event 1
    ∷ asks (shop.P+ (shop.condition 2 1 0)) shop.start checked (verdicts (Rejects 4 1))
    -- isolate response drain: reason 5, relation 6
    ∷ asks (shop.P+ (shop.response 2 4 1)) shop.start checked (verdicts (Rejects 5 6))
    ∷ asks (shop.P+ (shop.eventually 2 4)) shop.start checked (verdicts (Rejects 5 6))
    -- isolate includes flush: reason 6, relation 6
    ∷ asks (shop.P+ (shop.includes 2 1)) shop.start checked (verdicts (Rejects 6 6))
    -- standby excludes leak: reason 1, event 0
    ∷ asks (shop.P+ (shop.excludes 3 0)) shop.start checked (verdicts (Rejects 1 0))
    -- flush includes flush: accepted
    ∷ asks (shop.P+ (shop.includes 1 1)) shop.start checked (verdicts Accepts)
    -- time 5 and age 3, 5, 9: margin −2, 0, 4
    ∷ asks shop.waits5 (shop.marking (shop.idle ∷ shop.happened 3 ∷ [])) (margins 0) (by (By (negsuc 1)))
    ∷ asks shop.waits5 (shop.marking (shop.idle ∷ shop.happened 5 ∷ [])) (margins 0) (by (By (pos 0)))
    ∷ asks shop.waits5 (shop.marking (shop.idle ∷ shop.happened 9 ∷ [])) (margins 0) (by (By (pos 4)))
    -- the hex table and marking: a guarded tick causes 0; event 0 then reads 80 00 00 03 C0 00 00 00 00 00 00 01
    ∷ asks (read_table shop.hex_table).table (read_marking 2 shop.hex_marking).marking (caused_along (shop.guarded ∷ [])) (events (0 ∷ []))
    ∷ asks (read_table shop.hex_table).table (end_of (read_table shop.hex_table).table (read_marking 2 shop.hex_marking).marking (shop.guarded ∷ []))
    (state_bytes 0) (bytes shop.hex_record)
    ∷ []

unfoldable pub mistakes : List Case
mistakes =
    -- Trying a list in the live marking and putting back only the last event: isolate of the preferred list must not serve the fallback
    after shop.leak_then_three (offered (2 ∷ 1 ∷ []) (4 ∷ 1 ∷ [])) (remedy_is 13 false 0)
    -- Letting an excluded event at deadline 0 stop time, or halting its countdown
    ∷ asks shop.waits5 (shop.marking (shop.pending_within false 0 ∷ shop.idle ∷ [])) ticked (number 0)
    ∷ asks shop.waits5 (end_of shop.waits5 (shop.marking (shop.pending_within false 2 ∷ shop.idle ∷ [])) (shop.plain ∷ [])) (state 0)
    (is (shop.pending_within false 1))
    -- Applying effects before clearing e, which loses a self-response
    ∷ asks self_response (end_of self_response (shop.marking (shop.idle ∷ [])) (shop.happens 0 ∷ [])) (state 0)
    (is (record { age = 0; deadline = 3; happened = true; included = true; pending = true; bounded = true; count = 1 }))
    -- Keeping the smaller of old and new deadline, where the table is not firm
    ∷ after shop.leak_twice (state 1) (is (shop.pending_within true 3))
    -- Executing a needed event that an earlier one has excluded
    ∷ asks rivals both_due (caused_along (shop.guarded ∷ [])) (events (0 ∷ []))
    -- Judging the needed set later than at the start: 2 is executed though 1, which needed it, has been excluded
    ∷ asks still_needed both_due_one_idle (caused_along (shop.guarded ∷ [])) (events (0 ∷ 2 ∷ []))
    -- .. and 1, for which 0 waits, is needed though 0 will exclude it
    ∷ asks excludes_its_wait one_due (caused_along (shop.guarded ∷ [])) (events (1 ∷ 0 ∷ []))
    -- Executing it all the same because it has happened before
    ∷ asks rivals both_due_one_happened (caused_along (shop.guarded ∷ [])) (events (0 ∷ []))
    ∷ []
  where
    self_response : Table
    self_response = shop.table 1 1 1 (shop.response 0 0 3 ∷ [])

    rivals : Table
    rivals = shop.table 2 3 3 (shop.excludes 0 1 ∷ shop.excludes 1 0 ∷ [])

    both_due : Marking
    both_due = shop.marking (shop.pending_within true 0 ∷ shop.pending_within true 0 ∷ [])

    both_due_one_happened : Marking
    both_due_one_happened = shop.marking
        (shop.pending_within true 0 ∷ record { age = 5; deadline = 0; happened = true; included = true; pending = true; bounded = true; count = 1 } ∷ [])

    excludes_its_wait : Table
    excludes_its_wait = shop.table 2 3 3 (shop.condition 0 1 0 ∷ shop.excludes 0 1 ∷ [])

    one_due : Marking
    one_due = shop.marking (shop.pending_within true 0 ∷ shop.idle ∷ [])

    still_needed : Table
    still_needed = shop.table 3 7 7 (shop.excludes 0 1 ∷ shop.condition 1 2 0 ∷ [])

    both_due_one_idle : Marking
    both_due_one_idle = shop.marking (shop.pending_within true 0 ∷ shop.pending_within true 0 ∷ shop.idle ∷ [])

-- For public calls: questions on which an engine that looks reasonable would answer otherwise.
unfoldable pub turning : List Case
turning =
    -- read_marking: 3 comes first. Not 1
    after [] (image_read 0 (7 ∷ [])) (marks (refusal 3 empty_marking))
    -- write_table: P's bytes, and a later byte stays. Not left and right the other way round; not a 0 behind
    ∷ after [] (table_buffer (replicate 46 9)) (bytes (shop.p_image ++ (9 ∷ [])))
    -- the table's number before 14, and a refusal writes nothing. Not 14; not a header
    ∷ asks (shop.table 1 1 1 (shop.response 0 0 0 ∷ [])) shop.start (table_written 0) (number 6)
    ∷ after [] (table_written 44) (number 14)
    ∷ after [] (table_buffer (replicate 44 9)) (bytes (replicate 44 9))
    -- class bits of events past the count, and relations past theirs, are not written. Not a class byte more
    ∷ asks (record { relations = replicate 256 (shop.includes 0 0); controllable = 7; causable = 6; events = 1; count = 0; firm = false }) shop.start
    (table_buffer (replicate 6 9)) (bytes (0x02 ∷ 0x00 ∷ 0x00 ∷ 0x00 ∷ 0x80 ∷ 9 ∷ []))
    -- write_marking: a refusal writes nothing. Not a first byte
    ∷ after [] (buffer_written (9 ∷ 9 ∷ [])) (bytes (9 ∷ 9 ∷ []))
    -- fresh: included, and a place past the count is 0. Not excluded; not a fresh record; 65 events are not 64
    ∷ after [] (started_fresh 2) (marks (record { number = 0; marking = shop.marking (shop.idle ∷ shop.idle ∷ []) }))
    ∷ after [] (started_fresh 65) (marks (refusal 3 empty_marking))
    -- judge_table: 4 before 5; a bounded response of time 0 is none. Not 5; not 0
    ∷ asks (shop.table 1 1 1 (record { kind = 9; left = 200; right = 0; bounded = false; time = 0 } ∷ [])) shop.start table_judged (number 4)
    ∷ asks (shop.table 1 1 1 (shop.response 0 0 0 ∷ [])) shop.start table_judged (number 6)
    -- judge_marking: 1 before 7; a deadline without a bound. Not 7; not 0
    ∷ asks shop.P (shop.marking (unbound ∷ [])) (marking_judged 2) (number 1)
    ∷ asks shop.P (shop.marking (unbound ∷ [])) (marking_judged 1) (number 7)
    -- happened with count 0, not happened with count 1; at the hold it fits. Not 0; not 7
    ∷ asks shop.P (shop.marking (shop.happened_times 0 0 ∷ [])) (marking_judged 1) (number 7)
    ∷ asks shop.P (shop.marking (counted_early ∷ [])) (marking_judged 1) (number 7)
    ∷ asks shop.P (shop.marking (shop.happened_times 0 count_limit ∷ [])) (marking_judged 1) (number 0)
    -- a count grows at each execution and not by time, and at the hold it stays. Not 1; not 3; not 0
    ∷ asks alone (end_of alone (shop.marking (shop.idle ∷ [])) (shop.happens 0 ∷ shop.plain ∷ shop.happens 0 ∷ shop.plain ∷ [])) (state 0)
    (is (shop.happened_times 1 2))
    ∷ asks alone (end_of alone (shop.marking (shop.happened_times 5 count_limit ∷ [])) (shop.happens 0 ∷ [])) (state 0) (is (shop.happened_times 0 count_limit))
    -- carry_marking: the old fields, then count 1 and count 0, and a later byte stays. Not a count of 1 for both; not a 0 behind
    ∷ after [] (carry_buffer 2 shop.hex_old (replicate 25 9)) (bytes (shop.hex_record ++ replicate 12 0 ++ (9 ∷ [])))
    -- 3 before 1, 1 before 7, 7 before 14, and a refusal writes nothing. Not the later one; not a first record
    ∷ after [] (carry_of 65 [] 0) (number 3)
    ∷ after [] (carry_of 1 shop.hex_marking 0) (number 1)
    ∷ after [] (carry_of 1 (replicate 7 0 ++ (1 ∷ [])) 0) (number 7)
    ∷ after [] (carry_of 2 shop.hex_old 23) (number 14)
    ∷ after [] (carry_buffer 2 shop.hex_old (replicate 23 9)) (bytes (replicate 23 9))
    -- size, lowest: the topmost event counts; 64 for none. Not 1; not 0; not the highest, 3
    ∷ after [] (size_asked (2 ^ 63 + 1)) (number 2)
    ∷ after [] (size_asked 0) (number 0)
    ∷ after [] (lowest_asked 0) (number 64)
    ∷ after [] (lowest_asked 12) (number 2)
    -- enabled: false in a refusal; an excluded right does not block. Not true; not false
    ∷ after [] (enabled_now 5) (enables (record { number = 8; enabled = false }))
    ∷ asks shop.waits5 (shop.marking (shop.idle ∷ shop.excluded ∷ [])) (enabled_now 0) (enables (record { number = 0; enabled = true }))
    -- due: bounded only. Not event 0
    ∷ asks shop.waits5 (shop.marking (shop.eventually_pending ∷ shop.pending_within true 0 ∷ [])) due_now (set_is 2)
    -- happen: an event that is not enabled, and the marking handed in comes back. Not 9; not a changed marking
    ∷ after [] (happens 1) (marks (refusal 10 shop.start))
    ∷ after [] (happens 9) (marks (refusal 8 shop.start))
    -- plain_tick: a place past the count is kept. Not aged
    ∷ asks shop.waits5 (record { records = replicate 64 (shop.happened 3); events = 2 }) (aged 2) (is (shop.happened 3))
    -- margin: never is no number; a milestone has none. Not 0; not never
    ∷ asks shop.waits5 (shop.marking (shop.idle ∷ shop.idle ∷ [])) (margins 0) (by Never)
    ∷ after [] (margins 4) (by NotACondition)
    -- hold_up: excluded, though also blocked. Not blocked by relation 1
    ∷ after [] (held 1) (hold Excluded)
    -- closure: an excluded event with a deadline is busy; an eventual response makes none busy. Not left out; not event 1
    ∷ asks (shop.table 2 3 3 (shop.eventually 0 1 ∷ [])) (shop.marking (shop.pending_within false 5 ∷ shop.idle ∷ [])) closed (closure_is 1 1)
    -- and the size of none in a refusal. Not the events of the table
    ∷ asks (shop.table 0 0 0 []) shop.start closed (closes (record { number = 3; set = 0; size = 0 }))
    -- check: the lowest reason, not a later one that also applies; the lowest event ON a cycle, not one that only leads into it
    ∷ asks (shop.table 2 2 0 (shop.excludes 0 0 ∷ shop.response 1 1 1 ∷ [])) (shop.marking (shop.idle ∷ shop.idle ∷ [])) checked (verdicts (Rejects 1 0))
    ∷ asks into_cycle (shop.marking (shop.pending_within true 5 ∷ shop.idle ∷ shop.idle ∷ [])) checked (verdicts (Rejects 4 1))
    -- run_bytes: an odd byte gives 1 before 14; a byte past the steps stays; a wrong kind is 15 and the run goes on
    ∷ after [] (run_of (3 ∷ []) 0) (marks (refusal 1 shop.start))
    ∷ after [] (run_buffer (4 ∷ 0 ∷ 1 ∷ 1 ∷ []) (7 ∷ 7 ∷ 7 ∷ [])) (bytes (15 ∷ 10 ∷ 7 ∷ []))
    -- kinds 0 and 1 mean the same, whatever the class: isolate is controllable, leak is not. Not 9
    ∷ after [] (steps_buffer (shop.happens 0 ∷ shop.happens 2 ∷ shop.happens_too 0 ∷ shop.happens_too 2 ∷ []) (replicate 4 7)) (bytes (replicate 4 0))
    ∷ after [] (run_buffer (3 ∷ 0 ∷ 3 ∷ 0 ∷ []) (7 ∷ [])) (bytes (7 ∷ []))
    -- run: a refused step leaves the marking; a buffer too short stays, and nothing is run. Not flush executed; not a first answer
    ∷ after [] (steps_of (shop.happens 1 ∷ []) 1) (marks (refusal 0 shop.start))
    ∷ after [] (steps_buffer (shop.leak ∷ shop.happens 1 ∷ []) (7 ∷ [])) (bytes (7 ∷ []))
    ∷ after [] (steps_buffer (shop.leak ∷ shop.happens 1 ∷ []) (7 ∷ 7 ∷ 7 ∷ [])) (bytes (0 ∷ 10 ∷ 7 ∷ []))
    -- in numbers: the ticks of a margin, and none for never; the relation of a hold-up; 12 with reason and place. Not the case alone
    ∷ asks shop.waits5 (shop.marking (shop.idle ∷ shop.happened 3 ∷ [])) (margin_told 0) (told_by (record { number = 0; kind = 3; ticks = negsuc 1 }))
    ∷ asks shop.waits5 (shop.marking (shop.idle ∷ shop.idle ∷ [])) (margin_told 0) (told_by (record { number = 0; kind = 2; ticks = pos 0 }))
    ∷ after (shop.leak ∷ []) (hold_up_told 1) (told_hold (record { number = 0; kind = 2; relation = 1 }))
    ∷ asks shop.P-timed shop.start check_told (told_verdict (record { number = 12; reason = 3; place = 1 }))
    -- a record's fields in the image's order, and a later place stays; 8 before 14, and nothing is written. Not age first; not a first field
    ∷ after [] (record_told shop.hex_table shop.hex_marking 0 (replicate 8 9)) (bytes (0 ∷ 0 ∷ 1 ∷ 1 ∷ 1 ∷ 0 ∷ 0 ∷ 9 ∷ []))
    ∷ after [] (record_told shop.hex_table (shop.hex_record ++ replicate 12 0) 0 (replicate 7 9)) (bytes (1 ∷ 1 ∷ 1 ∷ 1 ∷ 1 ∷ 0 ∷ 1 ∷ []))
    ∷ after [] (record_told shop.hex_table shop.hex_marking 0 (replicate 6 9)) (bytes (replicate 6 9))
    ∷ after [] (record_told shop.hex_table shop.hex_marking 1 (9 ∷ [])) (bytes (9 ∷ []))
    -- a table built from plain numbers: P's bytes, and a later byte stays
    ∷ after [] (build_buffer 5 0 shop.p_classes shop.p_numbers (replicate 46 9)) (bytes (shop.p_image ++ (9 ∷ [])))
    -- no number is cut down before it is judged: a kind of 257 is not 1, a left of 256 not 0, a bounded of 2 not 0, a time of 2^30 not 0
    ∷ after [] (build_of 1 0 (0 ∷ []) (257 ∷ 0 ∷ 0 ∷ 1 ∷ 0 ∷ []) 11) (number 4)
    ∷ after [] (build_of 1 0 (0 ∷ []) (3 ∷ 256 ∷ 0 ∷ 0 ∷ 0 ∷ []) 11) (number 5)
    ∷ after [] (build_of 1 0 (0 ∷ []) (3 ∷ 0 ∷ 0 ∷ 2 ∷ 0 ∷ []) 11) (number 6)
    ∷ after [] (build_of 1 0 (0 ∷ []) (1 ∷ 0 ∷ 0 ∷ 1 ∷ 2 ^ 30 ∷ []) 11) (number 6)
    -- 3 before 1, 1 before 2, 2 before the relations, these before 14. Not the later one
    ∷ after [] (build_of 0 0 (1 ∷ []) (9 ∷ []) 0) (number 3)
    ∷ after [] (build_of 1 0 (1 ∷ []) (9 ∷ []) 0) (number 1)
    ∷ after [] (build_of 1 0 (1 ∷ []) (9 ∷ 0 ∷ 0 ∷ 0 ∷ 0 ∷ []) 0) (number 2)
    ∷ after [] (build_of 1 0 (0 ∷ []) (9 ∷ 0 ∷ 0 ∷ 0 ∷ 0 ∷ []) 0) (number 4)
    ∷ after [] (build_of 1 0 (0 ∷ []) (3 ∷ 0 ∷ 0 ∷ 0 ∷ 0 ∷ []) 10) (number 14)
    -- and told back: relation 0 and the class of flush; 8 before 14, and nothing is written. Not a sixth place
    ∷ after [] (relation_asked shop.p_image 0 (replicate 6 9)) (bytes (2 ∷ 0 ∷ 1 ∷ 1 ∷ 3 ∷ 9 ∷ []))
    ∷ after [] (relation_asked shop.p_image 6 (9 ∷ [])) (bytes (9 ∷ []))
    ∷ after [] (class_asked shop.p_image 1) (bytes (0 ∷ 0xC0 ∷ []))
    -- station: an empty input is too short for a table. Not nothing
    ∷ after [] (station_of []) (bytes (1 ∷ []))
    -- the call: 14 for an output that could be too short, and for bytes after too few; then nothing is written. Not 0, nor a first byte
    ∷ after [] (station_number [] 0 (longest_output - 1)) (number 14)
    ∷ after [] (station_number [] 1 longest_output) (number 14)
    ∷ after [] (station_buffer [] 0 (9 ∷ 9 ∷ [])) (bytes (9 ∷ 9 ∷ []))
    -- a grant: the hex case, one guarded tick, 25 bytes; a later byte stays
    ∷ after [] (station_number hex_input 0 longest_output) (number 0)
    ∷ after [] (station_buffer hex_input 0 (replicate longest_output 9)) (bytes ((0 ∷ shop.hex_record) ++ replicate 12 0 ++ replicate (longest_output - 25) 9))
    ∷ []
  where
    hex_input : List ℕ
    hex_input = shop.hex_table ++ shop.hex_marking ++ (3 ∷ 0 ∷ [])

    unbound : Record
    unbound = record { age = 0; deadline = 4; happened = false; included = true; pending = true; bounded = false; count = 0 }

    counted_early : Record
    counted_early = record { age = 0; deadline = 0; happened = false; included = true; pending = false; bounded = false; count = 1 }

    alone : Table
    alone = shop.table 1 1 1 []

    into_cycle : Table
    into_cycle = shop.table 3 7 7 (shop.condition 0 1 0 ∷ shop.condition 1 2 0 ∷ shop.condition 2 1 0 ∷ [])

-- A firm table beside the same one that is not
unfoldable pub firm : List Case
firm =
    -- a flush due in one minute and a repeated leak: 1. Not 3, as in the one that is not firm (`mistakes`)
    asks firm_p (end_of firm_p shop.start shop.leak_twice) (state 1) (is (shop.pending_within true 1))
    -- "eventually" is largest: it meets 3, and 3 is given; 3 meets it, and stays. Not 0 ticks; not "eventually"
    ∷ meeting firmly (shop.response 0 1 3) shop.eventually_pending (shop.pending_within true 3)
    ∷ meeting firmly (shop.eventually 0 1) (shop.pending_within true 3) (shop.pending_within true 3)
    ∷ meeting loosely (shop.eventually 0 1) (shop.pending_within true 3) shop.eventually_pending
    ∷ meeting firmly (shop.eventually 0 1) shop.eventually_pending shop.eventually_pending
    -- what is due stays due, also while it is excluded. Not 3; not 3
    ∷ meeting firmly (shop.response 0 1 3) (shop.pending_within true 0) (shop.pending_within true 0)
    ∷ meeting firmly (shop.response 0 1 3) (shop.pending_within false 0) (shop.pending_within false 0)
    -- so a leak finds flush due at once that was excluded with its deadline over. Not due in 3
    ∷ asks firm_p (end_of firm_p shop.start (shop.leak_standby_five ++ (shop.leak ∷ []))) (state 1) (is (shop.pending_within true 0))
    -- the smaller that is new; and where nothing is pending the new one. Not the old; not none
    ∷ meeting firmly (shop.response 0 1 3) (shop.pending_within true 4) (shop.pending_within true 3)
    ∷ meeting firmly (shop.response 0 1 3) shop.idle (shop.pending_within true 3)
    -- a response to itself meets the event once it is cleared: the new one. Not 1, the smaller of before
    ∷ asks self_firm (end_of self_firm (shop.marking (shop.pending_within true 1 ∷ [])) (shop.happens 0 ∷ [])) (state 0)
    (is (record { age = 0; deadline = 3; happened = true; included = true; pending = true; bounded = true; count = 1 }))
    -- write_table, and back: the first bit of byte 2. Not the last; not none
    ∷ asks firm_p shop.start (table_buffer (replicate 45 9)) (bytes (shop.p_headed 0x80 0x00))
    ∷ after [] (firm_asked (shop.p_headed 0x80 0x00)) (bytes (0 ∷ 1 ∷ []))
    ∷ after [] (firm_asked shop.p_image) (bytes (0 ∷ 0 ∷ []))
    -- the bits behind it are spare, from the first to the last. Not 0
    ∷ after [] (firm_asked (shop.p_headed 0x40 0x00)) (bytes (2 ∷ 0 ∷ []))
    ∷ after [] (firm_asked (shop.p_headed 0x80 0x01)) (bytes (2 ∷ 0 ∷ []))
    -- built from plain numbers: firm; a number that is neither 0 nor 1 is 2, before 3. Not 0; not 3
    ∷ after [] (build_buffer 5 1 shop.p_classes shop.p_numbers (replicate 45 9)) (bytes (shop.p_headed 0x80 0x00))
    ∷ after [] (build_of 0 2 (1 ∷ []) (9 ∷ []) 0) (number 2)
    ∷ after [] (build_of 1 256 (0 ∷ []) [] 5) (number 2)
    ∷ []
  where
    firm_p : Table
    firm_p = shop.firmly shop.P

    firmly : Table → Table
    firmly = shop.firmly

    loosely : Table → Table
    loosely t = t

    self_firm : Table
    self_firm = shop.firmly (shop.table 1 1 1 (shop.response 0 0 3 ∷ []))

    -- a response of event 0 meets event 1 as it was, and leaves it so
    meeting : (Table → Table) → Relation → Record → Record → Case
    meeting choice k was left = asks (choice t) (end_of (choice t) (shop.marking (shop.idle ∷ was ∷ [])) (shop.happens 0 ∷ [])) (state 1) (is left)
      where
        t : Table
        t = shop.table 2 3 3 (k ∷ [])

-- Right events that are excluded
unfoldable pub returning : List Case
returning =
    -- ignored, and else never; or by -2, 0, 4. Not never; not 0 ticks
    alone shop.idle (margins 0) (by (Ignored never))
    ∷ alone (shop.happened 3) (margins 0) (by (Ignored (byTicks (negsuc 1))))
    ∷ alone (shop.happened 5) (margins 0) (by (Ignored (byTicks (pos 0))))
    ∷ alone (shop.happened 9) (margins 0) (by (Ignored (byTicks (pos 4))))
    -- what is no condition is not ignored
    ∷ asks one_milestone (shop.marking (shop.idle ∷ shop.away shop.eventually_pending ∷ [])) (margins 0) (by NotACondition)
    -- hold-up: enabled, unless it returns that has not happened, or not long enough ago; long enough ago it may return. Not enabled alone; not blocked
    ∷ alone shop.idle (held 0) (hold (EnabledUnless 0))
    ∷ alone (shop.happened 4) (held 0) (hold (EnabledUnless 0))
    ∷ alone (shop.happened 5) (held 0) (hold Enabled)
    -- a milestone, pending and not
    ∷ asks one_milestone (shop.marking (shop.idle ∷ shop.away shop.eventually_pending ∷ [])) (held 0) (hold (EnabledUnless 0))
    ∷ asks one_milestone (shop.marking (shop.idle ∷ shop.excluded ∷ [])) (held 0) (hold Enabled)
    -- the lowest that would block, past one that would not; of two that would, the lower. Not 0; not 1
    ∷ asks two_conditions (shop.marking (shop.idle ∷ shop.away (shop.happened 9) ∷ shop.excluded ∷ [])) (held 0) (hold (EnabledUnless 1))
    ∷ asks two_conditions (shop.marking (shop.idle ∷ shop.excluded ∷ shop.excluded ∷ [])) (held 0) (hold (EnabledUnless 0))
    -- one that blocks comes before a lower one that only would. Not 0; not enabled
    ∷ asks two_conditions (shop.marking (shop.idle ∷ shop.excluded ∷ shop.idle ∷ [])) (held 0) (hold (Blocked 1))
    -- an event that is itself excluded. Not enabled
    ∷ asks two_conditions (shop.marking (shop.excluded ∷ shop.excluded ∷ shop.excluded ∷ [])) (held 0) (hold Excluded)
    -- only its own relations count. Not 0
    ∷ alone shop.idle (held 1) (hold Excluded)
    ∷ asks shop.waits5 (shop.marking (shop.excluded ∷ shop.idle ∷ [])) (held 1) (hold Enabled)
    -- in numbers: no ticks where it would be never, the ticks where it would be by; the relation that would block. Not a number for never; not kind 3
    ∷ alone shop.idle (margin_told 0) (told_by (record { number = 0; kind = 1; ticks = pos 0 }))
    ∷ alone (shop.happened 3) (margin_told 0) (told_by (record { number = 0; kind = 4; ticks = negsuc 1 }))
    ∷ asks two_conditions (shop.marking (shop.idle ∷ shop.away (shop.happened 9) ∷ shop.excluded ∷ [])) (hold_up_told 0)
    (told_hold (record { number = 0; kind = 3; relation = 1 }))
    ∷ alone (shop.happened 5) (hold_up_told 0) (told_hold (record { number = 0; kind = 0; relation = 0 }))
    -- enabledness does not ask what would be. Not false
    ∷ alone shop.idle (enabled_now 0) (enables (record { number = 0; enabled = true }))
    ∷ []
  where
    -- event 0 waits five ticks for event 1, which is away
    alone : Record → Question → Answer → Case
    alone right = asks shop.waits5 (shop.marking (shop.idle ∷ shop.away right ∷ []))

    one_milestone : Table
    one_milestone = shop.table 2 3 3 (shop.milestone 0 1 ∷ [])

    two_conditions : Table
    two_conditions = shop.table 3 7 7 (shop.condition 0 1 5 ∷ shop.condition 0 2 0 ∷ [])

unfoldable pub chaining : List Case
chaining =
    -- after a leak the flush waits for isolate, and for drain; at the start it is excluded, and opens nothing
    after (shop.leak ∷ []) (list_of 1) (lists (link 1 0 ∷ link 4 0 ∷ []))
    ∷ after [] (list_of 1) (lists [])
    -- and what waits for nothing has no chain
    ∷ after [] (list_of 2) (lists [])
    -- a relation, all below it, then the next. Not by depth; not by number
    ∷ fresh 4 (waits 0 1 ∷ waits 0 3 ∷ waits 1 2 ∷ []) (list_of 0) (lists (link 0 0 ∷ link 2 1 ∷ link 1 0 ∷ []))
    -- a cycle ends, also of one event. Not again and again
    ∷ fresh 2 (waits 0 1 ∷ waits 1 0 ∷ []) (list_of 0) (lists (link 0 0 ∷ link 1 1 ∷ []))
    ∷ fresh 2 (waits 0 1 ∷ waits 1 0 ∷ []) (list_of 1) (lists (link 1 0 ∷ link 0 1 ∷ []))
    ∷ fresh 1 (waits 0 0 ∷ []) (list_of 0) (lists (link 0 0 ∷ []))
    -- an event that two lead to is opened at its first visit: the second is listed, and not what is below. Not link 4 twice; not without link 3
    ∷ fresh 5 (waits 0 1 ∷ waits 0 2 ∷ waits 1 3 ∷ waits 2 3 ∷ waits 3 4 ∷ []) (list_of 0)
    (lists (link 0 0 ∷ link 2 1 ∷ link 4 2 ∷ link 1 0 ∷ link 3 1 ∷ []))
    -- the first visit may be the deeper one. Not link 3 1
    ∷ fresh 4 (waits 0 1 ∷ waits 1 2 ∷ waits 0 2 ∷ waits 2 3 ∷ []) (list_of 0) (lists (link 0 0 ∷ link 1 1 ∷ link 3 2 ∷ link 2 0 ∷ []))
    -- two relations to one event are both listed
    ∷ fresh 2 (waits 0 1 ∷ waits 0 1 ∷ []) (list_of 0) (lists (link 0 0 ∷ link 1 0 ∷ []))
    -- a condition that holds leads nowhere, nor does an excluded event
    ∷ ladder shop.idle (shop.happened 0) shop.idle (list_of 0) (lists [])
    ∷ ladder shop.idle shop.excluded shop.idle (list_of 0) (lists [])
    ∷ ladder shop.idle shop.idle shop.excluded (list_of 0) (lists (link 0 0 ∷ []))
    -- only what is below the asked event
    ∷ down (list_of 1) (lists (link 1 0 ∷ []))
    -- how many; places past them stay
    ∷ down (chain_of 0 256) (chained (record { number = 0; count = 2 }))
    ∷ down (chain_buffer 0 (replicate 258 9)) (bytes (0 ∷ 257 ∷ replicate 256 9))
    -- 8, then 14 for fewer than 256 places, also where few would do; nothing is written then. Not 14 first; not by the count
    ∷ down (chain_of 3 0) (chained (record { number = 8; count = 0 }))
    ∷ down (chain_of 0 255) (chained (record { number = 14; count = 0 }))
    ∷ down (chain_buffer 0 (replicate 255 9)) (bytes (replicate 255 9))
    ∷ down (chain_buffer 3 (replicate 256 9)) (bytes (replicate 256 9))
    -- and judging comes before both
    ∷ asks steps (shop.marking (shop.idle ∷ [])) (chain_of 3 0) (chained (record { number = 1; count = 0 }))
    ∷ []
  where
    waits : ℕ → ℕ → Relation
    waits e f = shop.condition e f 0

    -- nothing has happened
    fresh : ℕ → List Relation → Question → Answer → Case
    fresh n relations = asks (shop.table n 0 0 relations) (shop.marking (replicate n shop.idle))

    -- event 0 waits for 1, and that for 2
    steps : Table
    steps = shop.table 3 0 0 (waits 0 1 ∷ waits 1 2 ∷ [])

    ladder : Record → Record → Record → Question → Answer → Case
    ladder first second third = asks steps (shop.marking (first ∷ second ∷ third ∷ []))

    down : Question → Answer → Case
    down = ladder shop.idle shop.idle shop.idle

    -- the list of an event, in a list of 9s
    list_of : ℕ → Question
    list_of e = chain_buffer e (replicate 256 9)

    lists : List Link → Answer
    lists links = bytes (places_of links ++ replicate (256 - length links) 9)

unfoldable pub cases : List Case
cases = worked ++ mistakes ++ turning ++ firm ++ returning ++ chaining

-- every case is answered as told
pub told_right : map (λ c. answer c.table c.marking c.asked) cases ≡ map (λ c. c.told) cases
unfolding cases worked mistakes turning firm returning chaining answer caused_in every some lowest how_many repeated places_from below_from first_of has set_of size_of lowest_of field bytes_of time_fits relation_number table_number state_fits count_fits_lem record_fits marking_number marking_number_for judged relation_at relation_image_number table_image_number table_in read_table record_at marking_image_number read_marking header_image class_image relation_image write_table_number write_table record_image carried_at carried carry_number carry_marking pieces stops blocks is_enabled with_deadline excludes includes given smallest executed with_inclusion effect_at effect is_due any_due due_set later time plain_tick_number plain_tick happen_number happen rest_of margin_of margin would_block hold_up_of hold_up with_event along visit chain chain_number chain_answer chain_list busy follows widened widened_fully closure closure_answer unreportable uncausable waiting awaited on_cycle reopening reviving verdict check holds_back needed ready order_of taken taken_all executed_of caused guarded guarded_tick in_turn effects discharges shortest remedy_number remedy step_number step_done stepped end_of answers_of trace_number steps_in station write_number write_marking fresh enabled_answer due_answer run run_answers run_bytes run_bytes_answers told_margin told_hold_up reason_of place_of told_check table_of marking_of images_number fields_number fields_told relation_from numbers_number table_from build_number build relation_told_number relation_told class_told_number heard_number heard_bytes heard_output
told_right = refl

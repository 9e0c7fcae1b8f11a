-- The worked cases of minutes slept through and of quiet, by one statement over a table of cases, as in Cases: each answer is computed from the
-- definitions and is the one that the paper tells. Assumes nothing.
use Rattle.std.specs.Prelude.{◌≡◌, refl, true, List, [], ◌∷◌, ◌++◌, map, ℕ, ◌-◌, length, replicate}
use Rattle.rules.specs.declared.Table.{Table}
use Rattle.rules.specs.declared.Marking.{Marking}
use Rattle.rules.specs.Answers.{SleptAnswer}
use Rattle.rules.specs.declared.Step.{Step}
use Rattle.rules.specs.Counting.{every, some, lowest, how_many, repeated, places_from, below_from}
use Rattle.rules.specs.Numbers.{first_of}
use Rattle.rules.specs.EventSet.{has, with_event, set_of, size_of, lowest_of}
use Rattle.rules.specs.Fields.{field, bytes_of}
use Rattle.rules.specs.Pieces.{pieces}
use Rattle.rules.specs.Judge.{time_fits, relation_number, table_number, state_fits, count_fits_lem, record_fits, marking_number, marking_number_for, judged}
use Rattle.rules.specs.Image.{relation_at, relation_image_number, table_image_number, table_in, read_table, record_at, marking_image_number, read_marking}
use Rattle.rules.specs.Image.{header_image, class_image, relation_image, write_table_number, write_table, record_image, write_number, write_marking}
use Rattle.rules.specs.Image.{fresh}
use Rattle.rules.specs.Carrying.{carried_at, carried, carry_number, carry_marking}
use Rattle.rules.specs.Enabled.{stops, blocks, is_enabled, enabled_answer}
use Rattle.rules.specs.Effect.{with_deadline, excludes, includes, given, smallest, executed, with_inclusion, effect_at, effect}
use Rattle.rules.specs.Time.{is_due, any_due, due_set, later, time, plain_tick_number, plain_tick, due_answer}
use Rattle.rules.specs.Happen.{happen_number, happen}
use Rattle.rules.specs.Margin.{rest_of, margin_of, margin, told_margin}
use Rattle.rules.specs.HoldUp.{would_block, hold_up_of, hold_up, told_hold_up}
use Rattle.rules.specs.Chain.{along, visit, chain, chain_number, chain_answer, chain_list}
use Rattle.rules.specs.Closure.{busy, follows, widened, widened_fully, closure, closure_answer}
use Rattle.rules.specs.Check.{unreportable, uncausable, waiting, awaited, on_cycle, reopening, reviving, verdict, check, reason_of, place_of, told_check}
use Rattle.rules.specs.Guard.{holds_back, needed, ready, order_of, taken, taken_all, executed_of, caused, guarded, guarded_tick}
use Rattle.rules.specs.Remedy.{in_turn, effects, discharges, shortest, remedy_number, remedy}
use Rattle.rules.specs.Sleep.{Entry, entry, slept, slept_caused, sleep_check, sleep_number, sleep_answer, places_of as slept_places, sleep_list}
use Rattle.rules.specs.Quiet.{quiet_ticks}
use Rattle.rules.specs.Trace.{step_number, step_done, stepped, end_of, answers_of, trace_number, run, run_answers}
use Rattle.rules.specs.Trace.{steps_in, run_bytes, run_bytes_answers}
use Rattle.rules.specs.Station.{station, heard_number, heard_bytes, heard_output}
use Rattle.rules.specs.Images.{table_of, marking_of, images_number, fields_number, fields_told, verdict_told}
use Rattle.rules.specs.Building.{relation_from, numbers_number, table_from, build_number, build, relation_told_number, relation_told, class_told_number}
use Rattle.rules.specs.Shop as shop

-- A case: what is asked, of a table and of the marking after some steps from another, and what the paper tells.
pub data Question : Type 0 where
  sleep_of : ℕ → ℕ → Question
  sleep_buffer : ℕ → List ℕ → Question
  sleep_tells : ℕ → ℕ → Question
  quiet_of : ℕ → Question

pub data Answer : Type 0 where
  sleeps : SleptAnswer → Answer
  bytes : List ℕ → Answer
  number : ℕ → Answer

pub record Case : Type 0 where
  pub table : Table
  pub marking : Marking
  pub asked : Question
  pub told : Answer

unfoldable pub answer : Table → Marking → Question → Answer
answer t m (sleep_of ticks room) = sleeps (sleep_answer t m ticks room)
answer t m (sleep_buffer ticks list) = bytes (sleep_list t m ticks list)
answer t m (sleep_tells ticks room) =
    let a = sleep_answer t m ticks room in
    bytes (a.number ∷ verdict_told a.number a.reason 9 ∷ verdict_told a.number a.place 9 ∷ [])
answer t m (quiet_of most) = number (quiet_ticks m most)

abbrev asks : Table → Marking → Question → Answer → Case
asks t m q a = record { table = t; marking = m; asked = q; told = a }

-- of the shop's table P, after some steps from its start
abbrev after : List Step → Question → Answer → Case
after steps = asks shop.P (end_of shop.P shop.start steps)

unfoldable pub sleeping : List Case
sleeping =
    -- after a leak three minutes are quiet, and before the fourth isolate, drain and flush are caused. Not before the third
    after (shop.leak ∷ []) (list_of 3) (lists [])
    ∷ after (shop.leak ∷ []) (list_of 4) (lists (entry 4 2 ∷ entry 4 4 ∷ entry 4 1 ∷ []))
    ∷ after (shop.leak ∷ []) (sleep_of 5 3) (granted 3 (end_of shop.P shop.start (shop.leak_then_three ++ (shop.guarded ∷ shop.guarded ∷ []))))
    -- and after two of them before the second from then
    ∷ after (shop.leak ∷ shop.guarded ∷ shop.guarded ∷ []) (list_of 2) (lists (entry 2 2 ∷ entry 2 4 ∷ entry 2 1 ∷ []))
    -- what is due at once is caused before tick 1. Not before tick 0
    ∷ after shop.leak_then_three (list_of 1) (lists (entry 1 2 ∷ entry 1 4 ∷ entry 1 1 ∷ []))
    -- an excluded event at deadline 0 causes nothing; its countdown goes on, and ages grow
    ∷ after (shop.leak ∷ shop.guarded ∷ shop.standby ∷ []) (sleep_of 5 0) (granted 0 (end_of shop.P shop.start shop.leak_standby_five))
    -- a duty that renews itself comes again, two ticks later each time
    ∷ renewing 0 (list_of 5) (lists (entry 1 0 ∷ entry 3 0 ∷ entry 5 0 ∷ []))
    ∷ renewing 1 (list_of 5) (lists (entry 2 0 ∷ entry 4 0 ∷ []))
    -- one that is due each tick
    ∷ each_tick (list_of 3) (lists (entry 1 0 ∷ entry 2 0 ∷ entry 3 0 ∷ []))
    -- no ticks: the marking as it is, and nothing caused, also where an event is due
    ∷ after shop.leak_then_three (sleep_of 0 0) (granted 0 (end_of shop.P shop.start shop.leak_then_three))
    -- exactly room enough, and one place too few: nothing is written, and the marking is the one handed in
    ∷ after (shop.leak ∷ []) (sleep_buffer 4 (9 ∷ 9 ∷ 9 ∷ [])) (bytes (1026 ∷ 1028 ∷ 1025 ∷ []))
    ∷ after (shop.leak ∷ []) (sleep_buffer 4 (9 ∷ 9 ∷ [])) (bytes (9 ∷ 9 ∷ []))
    ∷ after (shop.leak ∷ []) (sleep_of 4 2) (refused 14 0 0 (end_of shop.P shop.start (shop.leak ∷ [])))
    -- 12 with reason and place, at no ticks too, and before the list's 14
    ∷ asks shop.P-uncausable shop.start (sleep_of 0 0) (refused 12 2 2 shop.start)
    ∷ asks shop.P-uncausable due (sleep_of 1 0) (refused 12 2 2 due)
    ∷ asks shop.P-uncausable due (sleep_buffer 1 (9 ∷ [])) (bytes (9 ∷ []))
    -- 14 for more ticks than the limit before 12, with no reason. Not for as many
    ∷ asks shop.P-uncausable shop.start (sleep_of 1000001 0) (refused 14 0 0 shop.start)
    ∷ asks shop.P-uncausable shop.start (sleep_of 1000000 0) (refused 12 2 2 shop.start)
    -- for C reason and place, which held 9, are told with 0 and with 12. Not with either 14
    ∷ after (shop.leak ∷ []) (sleep_tells 4 3) (bytes (0 ∷ 0 ∷ 0 ∷ []))
    ∷ after (shop.leak ∷ []) (sleep_tells 4 2) (bytes (14 ∷ 9 ∷ 9 ∷ []))
    ∷ asks shop.P-uncausable shop.start (sleep_tells 0 0) (bytes (12 ∷ 2 ∷ 2 ∷ []))
    ∷ asks shop.P-uncausable shop.start (sleep_tells 1000001 0) (bytes (14 ∷ 9 ∷ 9 ∷ []))
    -- and judging before all
    ∷ asks shop.P (shop.marking (shop.idle ∷ [])) (sleep_of 1000001 0) (refused 1 0 0 (shop.marking (shop.idle ∷ [])))
    -- after a leak three ticks pass before an event is due, of 6 that are asked about, and of 2 both
    ∷ after (shop.leak ∷ []) (quiet_of 6) (number 3)
    ∷ after (shop.leak ∷ []) (quiet_of 2) (number 2)
    -- none where an event is due now, and all where no deadline of an included event runs
    ∷ after shop.leak_then_three (quiet_of 6) (number 0)
    ∷ after [] (quiet_of 6) (number 6)
    ∷ after (shop.leak ∷ shop.guarded ∷ shop.standby ∷ []) (quiet_of 6) (number 6)
    ∷ []
  where
    -- a list of 9s, and what stands in it afterwards
    list_of : ℕ → Question
    list_of ticks = sleep_buffer ticks (replicate 8 9)

    lists : List Entry → Answer
    lists entries = bytes (slept_places entries ++ replicate (8 - length entries) 9)

    granted : ℕ → Marking → Answer
    granted count m = sleeps (record { number = 0; reason = 0; place = 0; count = count; marking = m })

    refused : ℕ → ℕ → ℕ → Marking → Answer
    refused n reason place m = sleeps (record { number = n; reason = reason; place = place; count = 0; marking = m })

    -- one event that asks for itself within so many ticks, and has so many left
    alone : ℕ → ℕ → Question → Answer → Case
    alone again left = asks (shop.table 1 1 1 (shop.response 0 0 again ∷ [])) (shop.marking (shop.pending_within true left ∷ []))

    renewing : ℕ → Question → Answer → Case
    renewing left = alone 2 left

    each_tick : Question → Answer → Case
    each_tick = alone 1 0

    -- the flush is due
    due : Marking
    due = end_of shop.P shop.start shop.leak_then_three

-- every case is answered as told
pub told_right : map (λ c. answer c.table c.marking c.asked) sleeping ≡ map (λ c. c.told) sleeping
unfolding sleeping answer every some lowest how_many repeated places_from below_from first_of has set_of size_of lowest_of field bytes_of time_fits relation_number table_number state_fits count_fits_lem record_fits marking_number marking_number_for judged relation_at relation_image_number table_image_number table_in read_table record_at marking_image_number read_marking header_image class_image relation_image write_table_number write_table record_image carried_at carried carry_number carry_marking pieces stops blocks is_enabled with_deadline excludes includes given smallest executed with_inclusion effect_at effect is_due any_due due_set later time plain_tick_number plain_tick happen_number happen rest_of margin_of margin would_block hold_up_of hold_up with_event along visit chain chain_number chain_answer chain_list busy follows widened widened_fully closure closure_answer unreportable uncausable waiting awaited on_cycle reopening reviving verdict check holds_back needed ready order_of taken taken_all executed_of caused guarded guarded_tick in_turn effects discharges shortest remedy_number remedy step_number step_done stepped end_of answers_of trace_number steps_in station write_number write_marking fresh enabled_answer due_answer run run_answers run_bytes run_bytes_answers told_margin told_hold_up reason_of place_of told_check table_of marking_of images_number fields_number fields_told relation_from numbers_number table_from build_number build relation_told_number relation_told class_told_number heard_number heard_bytes heard_output slept slept_caused sleep_check sleep_number sleep_answer sleep_list quiet_ticks verdict_told
told_right = refl

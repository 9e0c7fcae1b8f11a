-- Numbers that are never given. What holds of each of the given numbers holds of the number of every public call, of each answer byte of the
-- runner and of the station, and of the one byte that the station writes in a refusal; so a number that is not among them is given by none.
-- Over the number: from `number if test`, `first else next` and `first_of`. Assumes nothing.
use Rattle.std.specs.Prelude.{◌≡◌, Bool, true, false, cond, eqb, length}
use Rattle.std.proofs.Math.Path.{refl, subst}
use Rattle.std.proofs.Common.{◌∙◌, ap, sym, arith}
use mathlib.Core.List.{List, [], ◌∷◌, ◌++◌}
use Prim.Native.Nat.{ℕ, zero, suc, ◌<◌, ◌/◌}
use Rattle.std.proofs.Math.ListN.{get_or, get_or-append}
use Rattle.std.proofs.lemmas.Bool.{lt-leb}
use Rattle.rules.specs.declared.Relation.{Relation}
use Rattle.rules.specs.declared.Table.{Table}
use Rattle.rules.specs.declared.Marking.{Marking}
use Rattle.rules.specs.declared.Step.{Step}
use Rattle.rules.specs.Rest.{Rest, Never as rest-never, By as rest-by}
use Rattle.rules.specs.MarginAnswer.{Ignored}
use Rattle.rules.specs.Numbers.{◌if◌, ◌else◌, first_of, margin_number, hold_up_number, check_number}
use Rattle.rules.specs.Fields.{bytes_of}
use Rattle.rules.specs.Judge.{relation_number, table_number, marking_number, marking_number_for, judged}
use Rattle.rules.specs.Image.{relation_image_number, table_image_number, read_table, write_table_number, marking_image_number, read_marking, write_number, fresh}
use Rattle.rules.specs.Pieces.{pieces}
use Rattle.rules.specs.Image.{events_in, record_image, event_image, marking_image}
use Rattle.rules.specs.Carrying.{carry_number}
use Rattle.rules.specs.Enabled.{enabled_answer}
use Rattle.rules.specs.Time.{due_answer, plain_tick_number, plain_tick}
use Rattle.rules.specs.Happen.{happen_number, happen}
use Rattle.rules.specs.Margin.{outright, margin_of, margin}
use Rattle.rules.specs.HoldUp.{hold_up_of, hold_up}
use Rattle.rules.specs.Chain.{chain_number, chain_answer}
use Rattle.rules.specs.Closure.{closure_answer}
use Rattle.rules.specs.Check.{verdict, check}
use Rattle.rules.specs.Guard.{guarded_tick}
use Rattle.rules.specs.Remedy.{remedy_number, remedy}
use Rattle.rules.specs.Quiet.{quiet_answer}
use Rattle.rules.specs.Sleep.{sleep_check, sleep_number, sleep_answer}
use Rattle.rules.specs.Trace.{step_number, stepped, end_of, answers_of, trace_number, run, run_answers, steps_in, run_bytes, run_bytes_answers}
use Rattle.rules.specs.Station.{station, heard_number}
use Rattle.rules.specs.Images.{images_number, guard_number, fields_number}
use Rattle.rules.specs.Building.{numbers_number, build_number, relation_told_number, class_told_number}
use Rattle.rules.specs.Given.{given, EveryCall, Never}
use Rattle.rules.proofs.Laws.Tests.{clash}
use Rattle.rules.proofs.Laws.Trace.{answers_length, steps_length}
use Rattle.rules.specs.Station.{table_part, marking_part, steps_part}
use Rattle.rules.proofs.Laws.Station.{station_number, number_of, station_is}

-- a marking image is not one byte
no_byte : (m : Marking) (at n byte : ℕ) → pieces (event_image m) at n ≡ byte ∷ [] → ⊥
unfolding pieces record_image bytes_of
no_byte m at zero byte e = omega (arith, ap length e)
no_byte m at (suc n) byte e = omega (arith, ap length e)

module _ (P : ℕ → Type 0) (each : (number : ℕ) → given number ≡ true → P number) where
  pub if_given : (number : ℕ) (test : Bool) → given number ≡ true → P (number if test)
  if_given number true g = each number g
  if_given number false g = each 0 refl

  pub else_given : (first next : ℕ) → P first → P next → P (first else next)
  else_given zero next p q = q
  else_given (suc first) next p q = p

  pub first_given : (f : ℕ → ℕ) (n : ℕ) → ((i : ℕ) → P (f i)) → P (first_of n f)
  unfolding first_of
  first_given f zero h = each 0 refl
  first_given f (suc n) h = else_given (first_of n f) (f n) (first_given f n h) (h n)

  -- of an answer that is one of two, told by a test
  pub cond_given : {A : Type 0} (f : A → ℕ) (test : Bool) (a b : A) → P (f a) → P (f b) → P (f (cond test a b))
  cond_given f true a b p q = p
  cond_given f false a b p q = q

  -- judging
  relation_given : (events : ℕ) (k : Relation) → P (relation_number events k)
  unfolding relation_number
  relation_given events k = search (if_given, else_given) depth 8

  table_given : (t : Table) → P (table_number t)
  unfolding table_number
  table_given t = search (if_given, else_given, first_given, relation_given) depth 8

  marking_given : (m : Marking) → P (marking_number m)
  unfolding marking_number
  marking_given m = search (if_given, else_given, first_given) depth 8

  marking_for_given : (events : ℕ) (m : Marking) → P (marking_number_for events m)
  unfolding marking_number_for
  marking_for_given events m = search (if_given, else_given, marking_given) depth 8

  judged_given : (t : Table) (m : Marking) → P (judged t m)
  unfolding judged
  judged_given t m = search (else_given, table_given, marking_for_given) depth 8

  -- images
  relation_image_given : (image : List ℕ) (events p : ℕ) → P (relation_image_number image events p)
  unfolding relation_image_number
  relation_image_given image events p = search (if_given, else_given, relation_given) depth 8

  table_image_given : (image : List ℕ) → P (table_image_number image)
  unfolding table_image_number
  table_image_given image = search (if_given, else_given, first_given, relation_image_given) depth 12

  marking_image_given : (events : ℕ) (image : List ℕ) → P (marking_image_number events image)
  unfolding marking_image_number
  marking_image_given events image = search (if_given, else_given, first_given) depth 8

  images_given : (table marking : List ℕ) → P (images_number table marking)
  unfolding images_number read_table read_marking
  images_given table marking = search (else_given, table_image_given, marking_image_given) depth 8

  guard_given : (table marking : List ℕ) (room : ℕ) → P (guard_number table marking room)
  unfolding guard_number
  guard_given table marking room = search (if_given, else_given, images_given) depth 8

  fields_given : (table marking : List ℕ) (event room : ℕ) → P (fields_number table marking event room)
  unfolding fields_number
  fields_given table marking event room = search (if_given, else_given, images_given) depth 8

  build_given : (events firm : ℕ) (classes numbers : List ℕ) (room : ℕ) → P (build_number events firm classes numbers room)
  unfolding build_number numbers_number
  build_given events firm classes numbers room = search (if_given, else_given, first_given, relation_given) depth 13

  relation_told_given : (table : List ℕ) (relation room : ℕ) → P (relation_told_number table relation room)
  unfolding relation_told_number read_table
  relation_told_given table relation room = search (if_given, else_given, table_image_given) depth 8

  class_told_given : (table : List ℕ) (event : ℕ) → P (class_told_number table event)
  unfolding class_told_number read_table
  class_told_given table event = search (if_given, else_given, table_image_given) depth 8

  -- the calls' own numbers
  happen_given : (t : Table) (m : Marking) (e : ℕ) → P (happen_number t m e)
  unfolding happen_number
  happen_given t m e = search (if_given, else_given) depth 8

  plain_tick_given : (m : Marking) → P (plain_tick_number m)
  unfolding plain_tick_number
  plain_tick_given m = search if_given

  verdict_given : (t : Table) (m : Marking) → P (check_number (verdict t m))
  unfolding verdict
  verdict_given t m = search (cond_given check_number, each) depth 10

  remedy_given : (t : Table) (m : Marking) (preferred fallback : List ℕ) → P (remedy_number t m preferred fallback)
  unfolding remedy_number
  remedy_given t m preferred fallback = search (if_given, else_given) depth 8

  trace_given : (steps room : ℕ) → P (trace_number steps room)
  unfolding trace_number
  trace_given steps room = search if_given

  step_given : (t : Table) (m : Marking) (s : Step) → P (step_number t m s)
  unfolding step_number
  step_given t m s = search (if_given, else_given, cond_given (λ (n : ℕ). n), happen_given, plain_tick_given, verdict_given) depth 8

  answers_given : (t : Table) (m : Marking) (steps : List Step) (i : ℕ) → P (get_or (answers_of t m steps) i 0)
  unfolding answers_of
  answers_given t m [] i = each 0 refl
  answers_given t m (s ∷ rest) zero = step_given t m s
  answers_given t m (s ∷ rest) (suc i) = answers_given t (stepped t m s) rest i

  -- the answers that are enums
  ignored_given : (rest : Rest) → P (margin_number (Ignored rest))
  ignored_given rest-never = each 0 refl
  ignored_given (rest-by ticks) = each 0 refl

  outright_given : (rest : Rest) → P (margin_number (outright rest))
  outright_given rest-never = each 0 refl
  outright_given (rest-by ticks) = each 0 refl

  margin_given : (t : Table) (m : Marking) (k : ℕ) → P (margin_number (margin t m k))
  unfolding margin margin_of
  margin_given t m k = search (if_given, else_given, cond_given margin_number, ignored_given, outright_given, each, judged_given) depth 10

  hold_up_given : (t : Table) (m : Marking) (e : ℕ) → P (hold_up_number (hold_up t m e))
  unfolding hold_up hold_up_of
  hold_up_given t m e = search (if_given, else_given, cond_given hold_up_number, each, judged_given) depth 10

  check_given : (t : Table) (m : Marking) → P (check_number (check t m))
  unfolding check
  check_given t m = search (cond_given check_number, judged_given, verdict_given) depth 10

  -- and of the calls that came after these: sleeping and quiet
  pub sleep_given : (t : Table) (m : Marking) (ticks room : ℕ) → P (sleep_answer t m ticks room).number
  unfolding sleep_answer sleep_number sleep_check
  sleep_given t m ticks room = search (if_given, else_given, cond_given check_number, judged_given, verdict_given) depth 10

  pub quiet_given : (t : Table) (m : Marking) → P (quiet_answer t m).number
  unfolding quiet_answer
  quiet_given = judged_given

  -- answer bytes stand before what the buffer held
  written_given : (t : Table) (m : Marking) (steps : List Step) (behind : List ℕ) (i : ℕ) → i < length steps → P (get_or (answers_of t m steps ++ behind) i 0)
  written_given t m steps behind i b =
      subst P (sym (get_or-append (answers_of t m steps) behind 0 i (rw (answers_length t m steps) b))) (answers_given t m steps i)

  -- the station: the number of an input; the one byte that is written; the bytes at the steps' places
  input_given : (input : List ℕ) → P (station_number input)
  unfolding number_of read_table read_marking
  input_given input = search (if_given, else_given, table_image_given, marking_image_given, judged_given, trace_given) depth 8

  one_byte_given : (t : Table) (m : Marking) (steps : List Step) (end : Marking) (byte : ℕ) → answers_of t m steps ++ marking_image end ≡ byte ∷ [] → P byte
  unfolding answers_of
  one_byte_given t m [] end byte e = absurd (no_byte end 0 end.events byte e)
  one_byte_given t m (s ∷ rest) end byte e = subst P (ap (λ (l : List ℕ). get_or l 0 0) e) (step_given t m s)

  module _ (input : List ℕ) where
    abbrev t : Table
    t = (read_table (table_part input)).table

    abbrev m : Marking
    m = (read_marking (events_in input) (marking_part input)).marking

    abbrev steps : List Step
    steps = steps_in (steps_part input)

    abbrev written : Bool → List ℕ
    written granted = cond granted (answers_of t m steps ++ marking_image (end_of t m steps)) (station_number input ∷ [])

    station_given : (byte : ℕ) → station input ≡ byte ∷ [] → P byte
    station_given byte e = go (eqb (station_number input) 0) (sym (station_is input) ∙ e)
      where
        go : (granted : Bool) → written granted ≡ byte ∷ [] → P byte
        go true e = one_byte_given t m steps (end_of t m steps) byte e
        go false e = subst P (ap (λ (l : List ℕ). get_or l 0 0) e) (input_given input)

    station_answers_given : (i : ℕ) → i < length (steps_part input) / 2 → P (get_or (station input) i 0)
    station_answers_given i b = subst (λ (l : List ℕ). P (get_or l i 0)) (sym (station_is input)) (go (eqb (station_number input) 0) i b)
      where
        go : (granted : Bool) (i : ℕ) → i < length (steps_part input) / 2 → P (get_or (written granted) i 0)
        go true i b = written_given t m steps _ i (rw (steps_length (steps_part input)) b)
        go false zero b = input_given input
        go false (suc i) b = each 0 refl

  pub every_call : EveryCall P
  unfolding read_table read_marking write_table_number write_number carry_number fresh enabled_answer due_answer happen plain_tick chain_number chain_answer closure_answer guarded_tick remedy run run_answers run_bytes run_bytes_answers heard_number
  every_call = record {
    of_read_table = table_image_given;
    of_read_marking = marking_image_given;
    of_write_table = λ t room. search (if_given, else_given, table_given);
    of_write_marking = λ m room. search (if_given, else_given, marking_given);
    of_carry_marking = λ events old room. search (if_given, else_given, marking_given);
    of_fresh = λ events. search if_given;
    of_judge_table = table_given;
    of_judge_marking = marking_for_given;
    of_enabled = λ t m e. search (if_given, else_given, judged_given);
    of_due = judged_given;
    of_happen = λ t m e. search (else_given, judged_given, happen_given);
    of_plain_tick = λ t m. search (else_given, judged_given, plain_tick_given);
    of_margin = margin_given;
    of_hold_up = hold_up_given;
    of_chain = λ t m e room. search (if_given, else_given, judged_given) depth 8;
    of_closure = judged_given;
    of_check = check_given;
    of_guarded_tick = check_given;
    of_remedies = λ t m preferred fallback. search (else_given, judged_given, remedy_given);
    of_run = λ t m steps room. search (else_given, judged_given, trace_given);
    of_run_answers = λ t m steps buffer granted i b. rw granted (written_given t m steps _ i b);
    of_run_bytes = λ t m bytes room. search (if_given, else_given, judged_given, trace_given);
    of_run_bytes_answers = λ t m bytes buffer granted i b. rw granted (written_given t m (steps_in bytes) _ i (rw (steps_length bytes) b));
    of_heard = λ kept beyond room. search if_given;
    of_station = station_given;
    of_station_answers = station_answers_given;
    of_images = images_given;
    of_guard = guard_given;
    of_fields = fields_given;
    of_build = build_given;
    of_relation_told = relation_told_given;
    of_class_told = class_told_given;
  }

pub never : (n : ℕ) → given n ≡ false → Never n
never n none = every_call (λ number. number ≡ n → ⊥) (λ number g e. clash g (rw e none))

-- nor do sleeping and quiet
pub sleep_never : (n : ℕ) → given n ≡ false → (t : Table) (m : Marking) (ticks room : ℕ) → (sleep_answer t m ticks room).number ≡ n → ⊥
sleep_never n none = sleep_given (λ number. number ≡ n → ⊥) (λ number g e. clash g (rw e none))

pub quiet_never : (n : ℕ) → given n ≡ false → (t : Table) (m : Marking) → (quiet_answer t m).number ≡ n → ⊥
quiet_never n none = quiet_given (λ number. number ≡ n → ⊥) (λ number g e. clash g (rw e none))

-- no call gives a number above 15, and none gives 9
pub never_above : (n : ℕ) → 15 < n → Never n
never_above n above = never n (rw (lt-leb n 15 above))

pub never_nine : Never 9
never_nine = never 9 refl

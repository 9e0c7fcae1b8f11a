-- The station program. It reads standard input: a table image as long as its header says, a marking image, then steps of 2 bytes
-- (kind, event) to the end. It writes the runner's answer bytes and the end marking image, or one byte, the number, if a read or the whole
-- trace is refused. An odd last byte of the steps gives 1, before 14.
use Rattle.std.specs.Prelude.{not, ◌&&◌, ◌||◌, List, [], ◌∷◌, ◌++◌, ℕ, ◌+◌, ◌*◌, ◌/◌, eqb, ltb, length, take, drop, replicate}
use Rattle.rules.specs.Numbers.{◌if◌, ◌else◌, done}
use Rattle.rules.specs.Holds.{most_events, most_relations}
use Rattle.rules.specs.Image.{events_in, relations_in, table_length, read_table, record_bytes, read_marking, marking_image}
use Rattle.rules.specs.Trace.{most_steps, bytes_number, steps_in, end_of, answers_of}

-- how many bytes of an input are the table's, as its header says, and the marking's
abbrev pub table_bytes : List ℕ → ℕ
table_bytes input = table_length (events_in input) (relations_in input)

abbrev pub marking_bytes : List ℕ → ℕ
marking_bytes input = record_bytes * events_in input

-- the table, the marking and the steps
abbrev pub table_part : List ℕ → List ℕ
table_part input = take (table_bytes input) input

abbrev pub marking_part : List ℕ → List ℕ
marking_part input = take (marking_bytes input) (drop (table_bytes input) input)

abbrev pub steps_part : List ℕ → List ℕ
steps_part input = drop (marking_bytes input) (drop (table_bytes input) input)

unfoldable pub station : List ℕ → List ℕ
station input =
    let table = read_table (table_part input) in
    let marking = read_marking (events_in input) (marking_part input) in
    let t = table.table in
    let m = marking.marking in
    let bytes = steps_part input in
    let number = table.number else marking.number else bytes_number t m bytes (length bytes / 2) in
    done number (answers_of t m (steps_in bytes) ++ marking_image (end_of t m (steps_in bytes))) (number ∷ [])

-- the longest marking and the longest steps that are granted, and an input of the longest table and both
abbrev pub longest_marking : ℕ
longest_marking = record_bytes * most_events

abbrev pub longest_steps : ℕ
longest_steps = 2 * most_steps

abbrev pub longest_input : ℕ
longest_input = table_length most_events most_relations + longest_marking + longest_steps

-- an answer byte for each step, and the end marking
abbrev pub longest_output : ℕ
longest_output = most_steps + longest_marking

-- The call that the program stands on hears the first bytes of an input, the kept ones, and how many came after them, and is lent a buffer for
-- the output. Bytes past the longest input count by their number alone, so zeros stand for them (Laws/Station: what is written is the same).

-- 14: the buffer is shorter than the longest output, or bytes came after fewer kept ones than the longest input has
unfoldable pub heard_number : ℕ → ℕ → ℕ → ℕ
heard_number kept beyond room = 14 if (ltb room longest_output || not (eqb beyond 0) && ltb kept longest_input)

-- what is written: nothing in a refusal
unfoldable pub heard_bytes : List ℕ → ℕ → ℕ → List ℕ
heard_bytes kept beyond room = done (heard_number (length kept) beyond room) (station (kept ++ replicate beyond 0)) []

-- the buffer afterwards: what is written stands at its start, and every later byte stays
unfoldable pub heard_output : List ℕ → ℕ → List ℕ → List ℕ
heard_output kept beyond output = let bytes = heard_bytes kept beyond (length output) in bytes ++ drop (length bytes) output

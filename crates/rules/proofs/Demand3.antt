-- Demand 3 as a theorem. Statements is the part to read, with Chain, which says the same to a caller, and Runner, to a caller of the runner. Their
-- words are Promised, History, Deadline and Calls, beside the rules. The others lead up to them, each resting on those above it; Clauses and
-- Worked are computed. Beside it stands the theorem of counts, over the same histories and calls and with no check asked: Counts is the part to
-- read, and Runs leads up to it. Sleep says that minutes slept through are single guarded ticks, Quiet how long a caller may sleep.
pub mod Response
pub mod Records
pub mod Facts
pub mod Invariant
pub mod Accepts
pub mod Progress
pub mod Guarded
pub mod Keeping
pub mod Leading
pub mod Calm
pub mod Statements
pub mod Sleep
pub mod Quiet
pub mod Runs
pub mod Counts
pub mod Chain
pub mod Runner
pub mod Clauses
pub mod Worked

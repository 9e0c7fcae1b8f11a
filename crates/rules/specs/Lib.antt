-- What must be believed: the rules of docs/RULES.md, one file for one of its headings, in its order; then the calls for C, over images.
pub mod Answers
pub mod Rest
pub mod MarginAnswer
pub mod HoldUpAnswer
pub mod CheckAnswer
pub mod Counting
pub mod Numbers
pub mod Results
pub mod EventSet
pub mod Holds
pub mod Fields
pub mod Pieces
pub mod Judge
pub mod Image
pub mod Carrying
pub mod Enabled
pub mod Effect
pub mod Time
pub mod Happen
pub mod Including
pub mod Margin
pub mod HoldUp
pub mod Chain
pub mod Closure
pub mod Check
pub mod Guard
pub mod Remedy
pub mod Sleep
pub mod Quiet
pub mod Trace
pub mod Station
pub mod Images
pub mod Building
-- The words of the statements: of numbers that are given, of unused places, of demand 3.
pub mod Given
pub mod Unused
pub mod Promised
pub mod History
pub mod Deadline
pub mod Calls
-- What inner contracts cite. What follows from all of these stands in proofs/.
pub mod Shapes
-- The worked cases of docs/RULES.md, computed.
pub mod Shop
pub mod Cases
pub mod Nights

-- That each promise leaves one answer; demand 3, how often each event was done, minutes slept through, and the numbers that are never given, for a
-- caller from C.
pub mod Once
pub mod Chained
pub mod Demand3
pub mod Counts
pub mod Slept
pub mod Given

-- What the inner functions' promises amount to.
pub mod Results
pub mod Refused
pub mod Done
pub mod Judging
pub mod Trial
pub mod Playing
pub mod Heard
pub mod Hearing

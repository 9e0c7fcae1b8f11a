pub mod Passing
pub mod Answered

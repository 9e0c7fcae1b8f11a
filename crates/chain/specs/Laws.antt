pub mod Answered
pub mod Filling
pub mod Notes
pub mod Visiting

-- What the inner functions' promises amount to.
pub mod Search
pub mod Position
pub mod Reached
pub mod Followed
pub mod Noted
pub mod Cleared
pub mod Ends
pub mod Sets
pub mod Reasons
pub mod Ready
pub mod Taking
pub mod Checked
pub mod Step

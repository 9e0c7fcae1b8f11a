-- What the promises rest on.
pub mod Images
pub mod Kept
pub mod ReadBack
pub mod Answered
pub mod Checked
pub mod Guarded
pub mod Told
pub mod Offered
pub mod Held
pub mod Made

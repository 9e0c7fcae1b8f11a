pub mod Passing
pub mod Ended
pub mod Laws

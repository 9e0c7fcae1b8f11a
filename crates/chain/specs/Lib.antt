pub mod Stops
pub mod Visits
pub mod Laws

-- What the inner functions answer for. What the exported calls promise stands in the rules.
pub mod Reading
pub mod Performing
pub mod Telling
pub mod Making
pub mod Laws

-- What the inner functions of the engine promise, and that it amounts to the definitions.
pub mod Trial
pub mod Running
pub mod Heard
pub mod Laws

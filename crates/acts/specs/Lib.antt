-- What the words of one event and one minute stand for, and that acting by them is what the rules say.
pub mod Derived
pub mod Stands
pub mod Events
pub mod Links
pub mod Words
pub mod Acting
pub mod Blocking
pub mod Laws

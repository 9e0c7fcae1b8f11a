-- What follows from the definitions of the images, by what it is about: words, parts, tables; both ways round, of markings and of tables; what is
-- carried over, and what is built from plain numbers.
pub mod Slices
pub mod Answers
pub mod Packed
pub mod Parts
pub mod Searched
pub mod Bytes
pub mod Classes
pub mod Tables
pub mod Round
pub mod Carried
pub mod TableWords
pub mod TableRound
pub mod Built

-- What the inner functions answer for: the fields as parts of a word, and the definitions of the readers cut where the functions are.
pub mod Packed
pub mod Parts
pub mod Classes
pub mod Header
-- What follows from them and from the definitions of the images.
pub mod Laws
-- What is promised of the calls together.
pub mod Theorems

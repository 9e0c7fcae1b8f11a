-- Definitions that inner contracts and laws cite. No promise of a public call rests on them.
pub mod Good
pub mod Tried
pub mod Turned

-- What follows from the definitions, used by every proof; and demand 3 as a theorem.
pub mod Laws
pub mod Demand3

-- What is worked out over the words of a table and a marking: inhibitors, reasons, the order of taking, a step.
pub mod Inhibition
pub mod Reasons
pub mod AtStart
pub mod Taking
pub mod Step
pub mod Laws

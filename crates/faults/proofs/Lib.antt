-- Laws that belong to no one function.
pub mod Faults
pub mod OneOutcome

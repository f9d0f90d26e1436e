-- Laws that belong to no one function.
pub mod Holding
pub mod OneOutcome

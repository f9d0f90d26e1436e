-- Laws that belong to no one function.
pub mod Stepping
pub mod Feeding
pub mod OneOutcome

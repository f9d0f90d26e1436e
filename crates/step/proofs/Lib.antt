-- Laws that belong to no one function.
pub mod Standing
pub mod Stepping
pub mod OneOutcome

-- Laws that belong to no one function.
pub mod Looping
pub mod OneOutcome

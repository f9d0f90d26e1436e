-- Laws that belong to no one function.
pub mod Calling
pub mod OneOutcome

-- Laws that belong to no one function.
pub mod Admitting
pub mod OneOutcome

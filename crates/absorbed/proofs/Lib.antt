-- Laws that belong to no one function.
pub mod Same
pub mod OneOutcome

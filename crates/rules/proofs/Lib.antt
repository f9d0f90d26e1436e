-- Laws that belong to no one function.
pub mod Numbered
pub mod OneOutcome

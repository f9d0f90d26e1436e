-- Laws that belong to no one function.
pub mod Blocks
pub mod OneOutcome

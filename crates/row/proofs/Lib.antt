-- Laws that belong to no one function.
pub mod Filling
pub mod Places
pub mod OneOutcome

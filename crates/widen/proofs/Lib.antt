-- Laws that belong to no one function.
pub mod Absorbing
pub mod OneOutcome

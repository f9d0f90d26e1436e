-- Laws that belong to no one function.
pub mod Passing
pub mod Blind
pub mod OneOutcome

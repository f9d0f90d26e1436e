-- Laws that belong to no one function.
pub mod Taking
pub mod Verdicts
pub mod OneOutcome

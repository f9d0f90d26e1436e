-- Laws that belong to no one function.
pub mod Looking
pub mod OneOutcome

-- Laws that belong to no one function.
pub mod SameState
pub mod OneOutcome

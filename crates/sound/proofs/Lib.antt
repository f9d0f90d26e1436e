-- Laws that belong to no one function.
pub mod Clauses
pub mod OneOutcome

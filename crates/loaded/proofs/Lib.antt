-- Laws that belong to no one function.
pub mod Inspecting
pub mod OneOutcome

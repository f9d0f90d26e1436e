-- A text with numbers in it, and one outcome.
pub mod Filling
pub mod OneOutcome

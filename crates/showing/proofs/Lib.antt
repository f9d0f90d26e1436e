-- What is shown, and one outcome.
pub mod Showing
pub mod OneOutcome

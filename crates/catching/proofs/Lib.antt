-- One outcome.
pub mod OneOutcome

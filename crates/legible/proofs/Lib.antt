-- One outcome for each function.
pub mod OneOutcome

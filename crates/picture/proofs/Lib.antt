-- One outcome for the call.
pub mod OneOutcome

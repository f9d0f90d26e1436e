-- The caption's bytes one by one, and one outcome.
pub mod Going
pub mod OneOutcome

-- The lines as texts with numbers in them, and one outcome.
pub mod Lines
pub mod OneOutcome

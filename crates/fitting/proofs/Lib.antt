-- Laws of lines that a sound trace obeys, and one outcome.
pub mod Fitted
pub mod OneOutcome

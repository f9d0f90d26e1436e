-- Laws of what may wait, and one outcome.
pub mod Waits
pub mod OneOutcome

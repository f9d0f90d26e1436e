-- What is drawn, and one outcome.
pub mod Drawing
pub mod OneOutcome

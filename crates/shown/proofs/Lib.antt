pub mod OneOutcome

-- Laws of a byte behind the readings that wait, and one outcome.
pub mod Settling
pub mod OneOutcome

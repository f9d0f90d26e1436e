-- Laws that belong to no one function.
pub mod Keeping
pub mod Scanning
pub mod OneOutcome

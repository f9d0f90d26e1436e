-- Laws of the reader while readings wait, and one outcome.
pub mod Filling
pub mod Catching
pub mod Gathering
pub mod OneOutcome

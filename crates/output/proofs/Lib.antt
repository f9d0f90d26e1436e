-- Texts printed piece by piece: what is printed, and what is left to print.
pub mod Left
pub mod OneOutcome

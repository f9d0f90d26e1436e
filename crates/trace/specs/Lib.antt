-- The answer of a call as code has it, what a reading comes to, and what a call leaves.
pub mod Answers
pub mod Taken

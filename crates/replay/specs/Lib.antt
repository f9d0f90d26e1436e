-- The answer of a replay as code has it.
pub mod Answers

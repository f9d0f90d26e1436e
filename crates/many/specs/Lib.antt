-- The answer of many readings as code has it.
pub mod Answers

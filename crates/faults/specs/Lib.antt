-- The answer of the check of a file as code has it.
pub mod Verdicts

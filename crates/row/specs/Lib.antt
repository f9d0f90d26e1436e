-- What the row answers, and the output while it is written.
pub mod Answers

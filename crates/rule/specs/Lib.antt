-- Document 01, definition by definition, in its order. Nothing else in the project says what is right.
pub mod Numbers
pub mod Bucket
pub mod Table
pub mod Rules
pub mod Room
pub mod Bytes
pub mod Files
pub mod Answers
pub mod Calls
pub mod Outcomes
pub mod ByHand

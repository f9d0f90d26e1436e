-- Laws that belong to no one function.
pub mod Outcomes
pub mod Answering
pub mod Soundly

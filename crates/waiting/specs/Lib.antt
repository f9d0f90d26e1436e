-- Readings of the listing's input that wait.
pub mod Waiting

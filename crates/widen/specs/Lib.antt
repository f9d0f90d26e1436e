-- What the last bucket of a full table takes.
pub mod Widened

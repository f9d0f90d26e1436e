-- Laws that belong to no one function.
pub mod Replays
pub mod Reloading
pub mod Keeping

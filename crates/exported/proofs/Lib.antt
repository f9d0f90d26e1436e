-- Laws that belong to no one function.
pub mod Answering
pub mod Searching
pub mod Reaching
pub mod Exporting
pub mod Replays
pub mod Many

-- What the last bucket takes of the readings that follow.
pub mod Grew

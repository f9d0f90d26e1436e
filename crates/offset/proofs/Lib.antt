-- One number added to all readings: the laws of buckets and tables, and of calls.
pub mod Moved
pub mod Raised
pub mod Offset
pub mod ByHand

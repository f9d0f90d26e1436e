-- A header of steps before a trace, beside the same steps by default.
pub mod First
pub mod Stored

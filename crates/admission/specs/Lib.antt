-- The answer of the check that open, load and replay begin with.
pub mod Admission

-- The readings of the listing's input that wait, taken.
pub mod Catching

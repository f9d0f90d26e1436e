-- What is said of a run that is not whole.
pub mod Words

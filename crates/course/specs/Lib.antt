-- What the loop over the records of a recording has come to.
pub mod Progress

-- What an ending says to the tally.
pub mod Endings

-- A block of readings taken at once.
pub mod Block

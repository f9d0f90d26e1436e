-- The searches worked by hand are what the definitions say, and the promise of the search holds.
pub mod ByHand
pub mod Searching

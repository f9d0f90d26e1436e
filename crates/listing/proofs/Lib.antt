-- Laws of the listing: its lines, what stands after them, and reading in pieces.
pub mod Pieces
pub mod Splitting
pub mod Standings
pub mod Listed
pub mod Passing
pub mod ByHand

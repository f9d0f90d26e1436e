-- The picture of docs/PICTURE.md as one definition, the call that writes it, and what is promised of both.
pub mod Picture
pub mod Call
pub mod Promise
pub mod ByHand

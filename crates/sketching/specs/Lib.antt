-- The picture program as one definition, and the same read in pieces.
pub mod Sketching
pub mod Heading
pub mod Sketches
pub mod ByHand

-- The listing as one definition, and the same read in pieces.
pub mod Listing
pub mod Feeding
pub mod Lists
pub mod ByHand

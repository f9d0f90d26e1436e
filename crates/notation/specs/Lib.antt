-- What the listing of a table is, byte by byte, and what a line of the input means.
pub mod Signs
pub mod Printing
pub mod RowsByHand
pub mod Reading
pub mod LinesByHand
pub mod Back

-- Laws of texts printed and of lines read, and both worked by hand.
pub mod Texts
pub mod RowsByHand
pub mod Lines
pub mod LinesByHand
pub mod Back
pub mod Ranges

-- Laws of the picture program: the caption apart from the lines, reading in pieces, and that a program that reads so ends.
pub mod Caption
pub mod Sketched
pub mod Passing
pub mod ByHand

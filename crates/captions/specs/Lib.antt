-- A caption: which bytes it may have, how they leave, and how they are read back.
pub mod Caption
pub mod Promise
pub mod ByHand

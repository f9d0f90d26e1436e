-- Laws of captions: how one leaves and is read back, and captions worked by hand.
pub mod Escaping
pub mod Keeping
pub mod ByHand

-- The pictures worked by hand are what the definitions say, and the promises of the picture hold.
pub mod ByHand
pub mod Captioning
pub mod Runs
pub mod Standing
pub mod Answering
pub mod Longest
pub mod Keeping

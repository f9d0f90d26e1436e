-- The picture, as statements about sequences of calls, for a stranger to read without the proofs.
pub mod Exported
pub mod Moved

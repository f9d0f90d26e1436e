-- The demands as statements about the exported functions, for a stranger to read without the proofs.
pub mod Exported
pub mod Replay
pub mod Many

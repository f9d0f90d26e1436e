-- Demands 2 and 3 as statements about sequences of calls, for a stranger to read without the proofs.
pub mod Reached
pub mod Demands

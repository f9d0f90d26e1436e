-- Demand 1 as a statement about the calls, for a stranger to read without the proofs.
pub mod Answered
pub mod Sound

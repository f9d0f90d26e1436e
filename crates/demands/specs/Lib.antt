-- What demand 3 says of tables, for a stranger to read without the proofs.
pub mod Curve
pub mod History
pub mod Served
pub mod Editions
pub mod Tight

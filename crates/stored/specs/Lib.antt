-- Pages made while another B was the default, as statements about every trace, for a stranger to read without the proofs.
pub mod Stored

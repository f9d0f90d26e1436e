-- What a probe offset does to a trace, as statements about sequences of calls, for a stranger to read without the proofs.
pub mod Caller
pub mod Offset
pub mod ByHand

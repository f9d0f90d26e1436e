-- Where the pin first goes over: what that means, what the call answers, and what is promised of it, for a stranger to read without the proofs.
pub mod Hits
pub mod Search
pub mod Promise
pub mod ByHand

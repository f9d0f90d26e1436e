-- What the words of demand 3 mean, and why it holds: pairs, borders, coverage, and the theorem.
pub mod Tight
pub mod Worst
pub mod Curves
pub mod Borders
pub mod Pairs
pub mod Coverage
pub mod Invariant
pub mod Demand3
pub mod Instance
pub mod Editions

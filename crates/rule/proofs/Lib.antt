-- Laws that belong to no one function.
pub mod Whole
pub mod Checks
pub mod Errors
pub mod Tables
pub mod Merging
pub mod Ruling
pub mod Signed
pub mod Stores
pub mod Fitting
pub mod ByHand
pub mod Determined

-- Where a reading goes.
pub mod Arrivals

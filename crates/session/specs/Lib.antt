-- A session: one trace and one tally through a list of readings.
pub mod Session

-- One step of a stretch of readings in order in scratch places.
pub mod Step

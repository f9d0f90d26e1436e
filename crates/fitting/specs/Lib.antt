-- A line obeyed by a trace that is known to be sound.
pub mod Fitting

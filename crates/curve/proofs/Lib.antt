-- The broken lines printed bucket by bucket are those of the runs; one outcome for each function.
pub mod Joining
pub mod OneOutcome

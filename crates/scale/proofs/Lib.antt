-- What a picture shows of buckets in slots, and one outcome for each function.
pub mod Viewing
pub mod OneOutcome

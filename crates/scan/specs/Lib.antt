-- What a pass over neighbours has met.
pub mod Best

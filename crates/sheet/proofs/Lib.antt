-- The pieces of a picture, as they are printed one behind the other; one outcome for the function.
pub mod Pieces
pub mod OneOutcome

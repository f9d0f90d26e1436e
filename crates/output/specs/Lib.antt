-- Texts that are printed piece by piece.
pub mod Output

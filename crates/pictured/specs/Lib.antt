-- The answer of a picture as a plain record.
pub mod Pictured

-- The answer of many readings as a plain record.
pub mod Feeding

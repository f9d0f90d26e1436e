-- Readings in order taken in scratch places.
pub mod Stretch

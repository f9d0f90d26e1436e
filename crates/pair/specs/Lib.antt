-- Readings in order taken by two buckets in hand.
pub mod Pair

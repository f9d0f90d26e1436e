-- A lent room's slots, what the steps of a reading ask of it, and what a call leaves.
pub mod Slots
pub mod Steps
pub mod Left

-- The state as plain fields.
pub mod States

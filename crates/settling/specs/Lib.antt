-- A byte behind the readings that wait.
pub mod Settling

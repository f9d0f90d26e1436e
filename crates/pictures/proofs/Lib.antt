-- Laws that belong to no one function.
pub mod Exported
pub mod Moved

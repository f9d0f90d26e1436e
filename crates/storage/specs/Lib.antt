-- A file as a machine has it, and one record written.
pub mod Bytes
pub mod Files

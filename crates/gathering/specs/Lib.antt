-- The input read in pieces while readings wait.
pub mod Gathering

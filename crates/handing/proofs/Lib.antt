-- What the exported functions that hand on a lent tally reply, by what the calls of their names do.
pub mod Tallied

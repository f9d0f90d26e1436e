-- What the two readings that count in a lent tally leave.
pub mod Reading

-- What the search may read.
pub mod Reading

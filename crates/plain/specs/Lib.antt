-- Each answer as a plain record.
pub mod Plain

-- Laws of saved files.
pub mod Words
pub mod RoundTrip
pub mod Records
pub mod Filing
pub mod RoundTrips

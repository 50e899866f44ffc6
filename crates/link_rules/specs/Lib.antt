pub mod Link
pub mod RoundTrip

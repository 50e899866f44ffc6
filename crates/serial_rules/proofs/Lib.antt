pub mod Doubling
pub mod Lengths
pub mod Order
pub mod RoundTrip
pub mod Scans
pub mod Tables

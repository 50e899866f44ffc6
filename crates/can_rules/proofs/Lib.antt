pub mod Frames
pub mod Lengths
pub mod Order
pub mod Records
pub mod RoundTrip
pub mod Series

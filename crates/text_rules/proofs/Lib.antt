pub mod Splits
pub mod DigitLaws
pub mod NumberLaws
pub mod Printing
pub mod HexLaws
pub mod RoundTrip
pub mod Storing

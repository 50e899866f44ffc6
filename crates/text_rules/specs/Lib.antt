pub mod Words
pub mod Digits
pub mod Numbers
pub mod Hex

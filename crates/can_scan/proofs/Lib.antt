pub mod Checks
pub mod Scanning

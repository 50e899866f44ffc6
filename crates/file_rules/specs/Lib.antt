pub mod File
pub mod Checksum
pub mod Detection
pub mod Setup

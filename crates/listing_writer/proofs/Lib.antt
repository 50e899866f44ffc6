pub mod Storing
pub mod Parts

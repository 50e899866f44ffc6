pub mod Answers
pub mod Checks
pub mod Data
pub mod Tables
pub mod Parts
pub mod Stores

pub mod Answer
pub mod Kinds
pub mod Checks
pub mod Data

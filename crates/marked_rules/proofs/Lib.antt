pub mod Setups
pub mod Marked
pub mod Starts

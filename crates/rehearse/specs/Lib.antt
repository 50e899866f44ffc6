pub mod Course
pub mod Rounds

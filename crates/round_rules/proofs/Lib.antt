pub mod Refused
pub mod Lists
pub mod Counting
pub mod Steady
pub mod Schedules
pub mod Runs
pub mod Rounds

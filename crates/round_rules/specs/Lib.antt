pub mod Requester
pub mod World
pub mod Legal
pub mod Good
pub mod Schedule
pub mod Rounds

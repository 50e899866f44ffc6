pub mod Device
pub mod Faults
pub mod Commands
pub mod Work
pub mod Receive
pub mod Answers

pub mod Order
pub mod Replies
pub mod Receive
pub mod Buffers
pub mod Payloads
pub mod Faults
pub mod Works

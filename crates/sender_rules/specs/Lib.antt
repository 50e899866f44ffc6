pub mod Sender
pub mod Hearing
pub mod Sending

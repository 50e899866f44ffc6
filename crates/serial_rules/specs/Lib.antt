pub mod Frames
pub mod Stuffing

pub mod Undoubling

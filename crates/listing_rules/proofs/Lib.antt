pub mod Sizes
pub mod Reading
pub mod Frames
pub mod Walks
pub mod Limit
pub mod Bound
pub mod Walking
pub mod Listed

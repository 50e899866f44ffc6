pub mod Stages
pub mod Infos
pub mod Requests
pub mod Sizes
pub mod Situations
pub mod Steps

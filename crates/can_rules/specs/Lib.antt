pub mod Can
pub mod Records

pub mod Stored
pub mod SetUp
pub mod Demand

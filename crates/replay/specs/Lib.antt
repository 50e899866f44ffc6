pub mod LentCount

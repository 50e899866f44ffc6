pub mod Doubled
pub mod Framed

pub mod Csp

pub mod Undouble

pub mod SaidWords
pub mod Counts
pub mod Bounds

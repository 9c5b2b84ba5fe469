pub mod Known
pub mod Numberings

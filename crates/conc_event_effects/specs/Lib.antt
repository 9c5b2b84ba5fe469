pub mod Deeds
pub mod Step
pub mod Advance
